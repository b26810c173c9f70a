-- What a process is told to do.
use Rattle.std.specs.Prelude.{◌≡◌, ◌≢◌, ◌⊎◌, ℕ, ◌<◌, ◌≤◌, ◌||◌, Bool, true, false, cond, eqb, Option, Some, None, List, Contains, is_some, leb, length, slice_set}
use Rattle.cf_forms.specs.declared.forms.Args.{Args}
use Rattle.cf_model.specs.declared.events.Event.TheVariants.{Claim as Claims}
use Rattle.cf_model.specs.declared.events.Reply.TheVariants.{Claim as ToldClaim}
use Rattle.cf_model.specs.declared.replies.Claimed.TheVariants.{Granted}
use Rattle.cf_model.specs.States.{State, outcome_at}
use Rattle.cf_event.specs.declared.record.Record.{Record}
use Rattle.cf_event.specs.declared.record.Record.TheVariants.{Did}
use Rattle.cf_row.specs.Rows.{Replica, stages_of}
use Rattle.cf_row.specs.Grants.{IsHeldBy}
use Rattle.cf_part.specs.declared.progress.Progress.{Progress}
use Rattle.cf_part.specs.declared.progress.Progress.TheVariants.{NotCalled, Runs, Stopped}
use Rattle.cf_part.specs.declared.question.Fault.{Fault}
use Rattle.cf_part.specs.declared.step.Shown.{Shown}
use Rattle.cf_part.specs.declared.step.Shown.TheVariants.{Outcome as ShowsOutcome, Fault as ShowsFault}
use Rattle.cf_part.specs.declared.step.Step.{Step}
use Rattle.cf_part.specs.declared.step.Step.TheVariants.{Show, Stop, Call}
use Rattle.cf_part.specs.Parts.{Part, call_in, seen_by, state_in, wanted_in}

-- ---- which stages

-- who waits is told from a moment on, and at once behind a fault
abbrev pub is_time : Bool → ℕ → Option ℕ → Bool
is_time is_broken now None = false
is_time is_broken now (Some from) = is_broken || leb from now

-- somebody waits for the stage, it is time, and the stage is settled; or behind a fault, which all are told
pub record IsToShow (wanted : List (Option ℕ)) (is_broken : Bool) (now : ℕ) (s : State) (i : ℕ) : Type 0 where
  pub time : is_time is_broken now (wanted_in wanted i) ≡ true
  pub settled : (is_broken ≡ true) ⊎ (outcome_at s i ≢ None)

-- its function runs, and the stage is settled
pub record IsToStop (calls : List Progress) (s : State) (i : ℕ) : Type 0 where
  pub runs : call_in calls i ≡ Runs
  pub settled : outcome_at s i ≢ None

-- the session has the stage, and its function wasn't called
pub record IsToCall (calls : List Progress) (r : Replica) (i : ℕ) : Type 0 where
  pub there : i < stages_of r
  pub held : IsHeldBy r r.session i
  pub new : call_in calls i ≡ NotCalled

-- no stage below a number is such a one
abbrev pub NoneToShow : List (Option ℕ) → Bool → ℕ → State → ℕ → Type 0
NoneToShow wanted is_broken now s n = (i : ℕ) → i < n → ¬ IsToShow wanted is_broken now s i

abbrev pub NoneToStop : List Progress → State → ℕ → Type 0
NoneToStop calls s n = (i : ℕ) → i < n → ¬ IsToStop calls s i

abbrev pub NoneToCall : List Progress → Replica → ℕ → Type 0
NoneToCall calls r n = (i : ℕ) → i < n → ¬ IsToCall calls r i

-- what a claim of this stage was granted with, if a record is of such a one
abbrev pub grant_of : ℕ → Record → Option Args
grant_of i (Did place (Claims who j) (ToldClaim (Granted args))) = cond (eqb i j) (Some args) None
grant_of i r = None

-- the session's claim of the stage was granted with these arguments
abbrev pub IsGrantedWith : List Record → ℕ → Args → Type 0
IsGrantedWith records i args = (r : Record) × Contains records r × (grant_of i r ≡ Some args)

-- ---- a step

abbrev pub ShowsIn : State → Option Fault → ℕ → Shown → Type 0
ShowsIn s fault i (ShowsOutcome o) = (fault ≡ None) × (outcome_at s i ≡ Some o)
ShowsIn s fault i (ShowsFault f) = fault ≡ Some f

abbrev pub Shows : Part → ℕ → Shown → Type 0
Shows p i shown = ShowsIn (state_in p) p.fault i shown

-- a function is called only where all is seen that the store has told of
pub record Calls (p : Part) (i : ℕ) (args : Args) : Type 0 where
  pub sound : p.fault ≡ None
  pub all_seen : p.words ≤ seen_by p
  pub there : i < length p.calls
  pub is : IsToCall p.calls p.row.replica i
  pub granted : IsGrantedWith p.row.replica.records i args

-- what a step says is so, and is told for once
abbrev pub Tells : Part → ℕ → Step → Part → Type 0
Tells old now (Show i shown) new =
    (is_time (is_some old.fault) now (wanted_in old.wanted i) ≡ true) × Shows old i shown × (new ≡ record old { wanted = slice_set old.wanted i None })
Tells old now (Stop i) new = (old.fault ≡ None) × IsToStop old.calls (state_in old) i × (new ≡ record old { calls = slice_set old.calls i Stopped })
Tells old now (Call i args) new = Calls old i args × (new ≡ record old { calls = slice_set old.calls i Runs; owed = slice_set old.owed i None })

-- none goes before it: stages are shown first, then stopped, then called, and of each the lowest comes first
abbrev pub ComesFirst : Part → ℕ → Step → Type 0
ComesFirst p now (Show i shown) = NoneToShow p.wanted (is_some p.fault) now (state_in p) i
ComesFirst p now (Stop i) = NoneToShow p.wanted (is_some p.fault) now (state_in p) (length p.wanted) × NoneToStop p.calls (state_in p) i
ComesFirst p now (Call i args) =
    NoneToShow p.wanted (is_some p.fault) now (state_in p) (length p.wanted)
    × NoneToStop p.calls (state_in p) (length p.calls)
    × NoneToCall p.calls p.row.replica i

-- nothing is to be told by now
pub record NothingToTell (p : Part) (now : ℕ) : Type 0 where
  pub shown : NoneToShow p.wanted (is_some p.fault) now (state_in p) (length p.wanted)
  pub stopped : p.fault ≡ None → NoneToStop p.calls (state_in p) (length p.calls)
  pub called : p.fault ≡ None → p.words ≤ seen_by p → NoneToCall p.calls p.row.replica (stages_of p.row.replica)
