-- Open stages that are settled one after another.
use Rattle.std.specs.Prelude.{◌≡◌, ℕ, ◌<◌, false, Some, List, [], ◌∷◌, length}
use Rattle.cf_outcome.specs.declared.outcome.Cause.{Cause}
use Rattle.cf_outcome.specs.declared.outcome.Cause.TheVariants.{Thrown, Cancelled, TimedOut, BadAnswer}
use Rattle.cf_outcome.specs.declared.outcome.Outcome.{Outcome}
use Rattle.cf_outcome.specs.declared.outcome.Outcome.TheVariants.{Value as Gives, Fault}
use Rattle.cf_model.specs.declared.events.Event.{Event}
use Rattle.cf_model.specs.declared.events.Event.TheVariants.{Complete as Completes, Fail as Fails, FailAs as FailsAs, Cancel as Cancels}
use Rattle.cf_model.specs.declared.events.Failure.TheVariants.{TimedOut as AsTimedOut, BadAnswer as AsBadAnswer}
use Rattle.cf_model.specs.declared.events.Reply.{Reply}
use Rattle.cf_model.specs.States.{State, outcome_in}
use Rattle.cf_ledger.specs.Ledgers.{state_of}
use Rattle.cf_request.specs.Telling.{Teller, TellsEvent, is_settled_in}
use Rattle.cf_request.specs.declared.settling.Due.{Due}

-- a stage that is there and isn't settled
abbrev pub IsOpen : State → ℕ → Type 0
IsOpen s i = (i < length s.plan.stages) × (is_settled_in s.stages i ≡ false)

-- the event by which a caller settles a stage with this cause, or with this outcome
abbrev pub fault_event : ℕ → ℕ → Cause → Event
fault_event who i (Thrown code) = Fails who i code
fault_event who i Cancelled = Cancels who i
fault_event who i (TimedOut code) = FailsAs who i (AsTimedOut code)
fault_event who i (BadAnswer code) = FailsAs who i (AsBadAnswer code)

abbrev pub settle_event : ℕ → ℕ → Outcome → Event
settle_event who i (Gives v) = Completes who i v
settle_event who i (Fault cause wrapped) = fault_event who i cause

-- what the stage ends as then: the same value, or a raw fault of the same cause
abbrev pub raw : Outcome → Outcome
raw (Gives v) = Gives v
raw (Fault cause wrapped) = Fault cause false

-- a stage is settled by that event
pub record Settles (who : ℕ) (d : Due) (old new : Teller) : Type 0 where
  pub reply : Reply
  pub done : TellsEvent (settle_event who d.stage d.outcome) old reply new
  pub ends : outcome_in (state_of new.ledger).stages d.stage ≡ Some (raw d.outcome)

-- these are settled, one after another: each is open, and due as those before it leave the ledger and what was told
abbrev pub AreSettledInTurn : (Teller → Due → Type 0) → ℕ → Teller → List Due → Teller → Type 0
AreSettledInTurn IsDue who old [] new = new ≡ old
AreSettledInTurn IsDue who old (d ∷ dues) new =
    (between : Teller) × IsOpen (state_of old.ledger) d.stage × IsDue old d × Settles who d old between × AreSettledInTurn IsDue who between dues new

-- stages that were due are settled, and nothing else is done
pub record SettlesDue (IsDue : Teller → Due → Type 0) (who : ℕ) (old new : Teller) : Type 0 where
  pub dues : List Due
  pub are : AreSettledInTurn IsDue who old dues new
  pub lanes : new.lanes ≡ old.lanes
