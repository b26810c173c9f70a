-- Words that settle a stage.
use Rattle.std.specs.Prelude.{◌≡◌, ℕ, ◌+◌, ◌^◌, ◌%◌, ◌<◌, false, Some, None, [], ◌∷◌, length}
use Rattle.cf_outcome.specs.declared.outcome.Cause.{Cause}
use Rattle.cf_outcome.specs.declared.outcome.Cause.TheVariants.{Thrown, Cancelled, TimedOut, BadAnswer}
use Rattle.cf_outcome.specs.declared.outcome.Outcome.{Outcome}
use Rattle.cf_outcome.specs.declared.outcome.Outcome.TheVariants.{Value as Gives, Fault}
use Rattle.cf_model.specs.declared.events.Event.{Event}
use Rattle.cf_model.specs.declared.events.Event.TheVariants.{Complete as Completes, Fail as Fails, FailAs as FailsAs, Cancel as Cancels}
use Rattle.cf_model.specs.declared.events.Failure.TheVariants.{TimedOut as AsTimedOut, BadAnswer as AsBadAnswer}
use Rattle.cf_model.specs.States.{outcome_at}
use Rattle.cf_model.specs.Events.{answered}
use Rattle.cf_event.specs.Words.{word_of}
use Rattle.cf_row.specs.Rows.{Replica, stages_of, state_of}
use Rattle.cf_row.specs.Numbers.{FollowsRule}
use Rattle.cf_row.specs.Puts.{AreWordsBehind, pairs_of}
use Rattle.cf_notes.specs.declared.note.Note.TheVariants.{Nothing}
use Rattle.cf_notes.specs.declared.wants.Want.{Want}
use Rattle.cf_notes.specs.declared.wants.Source.TheVariants.{Nothing as NoPayload}

-- the number by which a word names a place, counted from 1
abbrev pub named_place : ℕ → ℕ
named_place place = place % 2 ^ 32

-- the number by which a word names the payload that stands beside it
abbrev pub place_of : Replica → ℕ
place_of r = named_place (length r.seen + 1)

-- a stage that is there and isn't settled
pub record IsOpen (r : Replica) (i : ℕ) : Type 0 where
  pub there : i < stages_of r
  pub unsettled : outcome_at (state_of r) i ≡ None

-- the event by which a caller settles a stage with this cause, or with this outcome
abbrev pub fault_event : ℕ → ℕ → Cause → Event
fault_event who i (Thrown code) = Fails who i code
fault_event who i Cancelled = Cancels who i
fault_event who i (TimedOut code) = FailsAs who i (AsTimedOut code)
fault_event who i (BadAnswer code) = FailsAs who i (AsBadAnswer code)

abbrev pub settle_event : ℕ → ℕ → Outcome → Event
settle_event who i (Gives v) = Completes who i v
settle_event who i (Fault cause wrapped) = fault_event who i cause

-- what the stage ends as then: the same value, or a raw fault of the same cause and code
abbrev pub raw : Outcome → Outcome
raw (Gives v) = Gives v
raw (Fault cause wrapped) = Fault cause false

-- the word by which this view's session settles an open stage: the graph takes it behind all that was seen, and the stage ends so by it
pub record SettlesAs (r : Replica) (i : ℕ) (o : Outcome) (word : ℕ) : Type 0 where
  pub who : ℕ
  pub rule : FollowsRule (pairs_of r.seen) (r.session, who)
  pub is : word ≡ word_of (settle_event who i o)
  pub fits : AreWordsBehind r who (word ∷ [])
  pub ends : outcome_at ((answered (state_of r) (settle_event who i o)).1) i ≡ Some (raw o)

-- that word alone: it has no note, and no payload stands beside it
pub record WantsAs (r : Replica) (i : ℕ) (o : Outcome) (want : Want) : Type 0 where
  pub word : SettlesAs r i o want.word
  pub note : want.note ≡ Nothing
  pub source : want.source ≡ NoPayload
