-- Timers.
use Rattle.std.specs.Prelude.{◌≡◌, ℕ, ◌<◌, ◌≤◌, Bool, true, false, Some, List}
use Rattle.std.specs.Int.{w32, cast_signed}
use Rattle.cf_outcome.specs.declared.outcome.Cause.TheVariants.{TimedOut}
use Rattle.cf_outcome.specs.declared.outcome.Outcome.{Outcome}
use Rattle.cf_outcome.specs.declared.outcome.Outcome.TheVariants.{Value as Gives, Fault}
use Rattle.cf_outcome.specs.declared.outcome.Value.TheVariants.{Int}
use Rattle.cf_row.specs.Rows.{Replica}
use Rattle.cf_notes.specs.declared.noted.Noted.{Noted}
use Rattle.cf_notes.specs.declared.noted.Timer.{Timer}
use Rattle.cf_notes.specs.Noting.{timer_of}
use Rattle.cf_due.specs.Settling.{IsOpen, WantsAs, named_place}
use Rattle.cf_notes.specs.declared.wants.Want.{Want}

-- what a timer settles its stage with: the payload that stands at the timer's place, or that its time has run out
abbrev pub outcome_by : Bool → ℕ → Outcome
outcome_by true place = Gives (Int (cast_signed w32 (named_place place)))
outcome_by false place = Fault (TimedOut 0) false

-- a stage is open, and the moment of its timer has come by the store's clock
pub record IsToTime (r : Replica) (notes : List Noted) (clock i : ℕ) (timer : Timer) : Type 0 where
  pub is_open : IsOpen r i
  pub is : timer_of notes i ≡ Some timer
  pub has_come : timer.moment ≤ clock

abbrev pub NoneToTime : Replica → List Noted → ℕ → ℕ → Type 0
NoneToTime r notes clock to = (k : ℕ) → k < to → (timer : Timer) → ¬ IsToTime r notes clock k timer

-- the word that settles the lowest such stage so
pub record IsTimerDue (r : Replica) (notes : List Noted) (clock : ℕ) (want : Want) : Type 0 where
  pub stage : ℕ
  pub timer : Timer
  pub time : IsToTime r notes clock stage timer
  pub lowest : NoneToTime r notes clock stage
  pub settles : WantsAs r stage (outcome_by timer.gives timer.place) want
