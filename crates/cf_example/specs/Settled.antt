-- Who settled a stage: whoever was told `true`.
use Rattle.std.specs.Prelude.{◌≡◌, ℕ, false, true, Option, Some, None, List, map}
use Rattle.std.specs.List.{Contains}
use Rattle.cf_outcome.specs.declared.outcome.Outcome.{Outcome}
use Rattle.cf_outcome.specs.declared.outcome.Outcome.TheVariants.{Value as Gives, Fault}
use Rattle.cf_outcome.specs.declared.outcome.Cause.TheVariants.{Thrown, Cancelled}
use Rattle.cf_outcome.specs.Outcomes.{is_cancelled}
use Rattle.cf_model.specs.declared.events.Event.{Event}
use Rattle.cf_model.specs.declared.events.Event.TheVariants.{Complete as Completes, Fail as Fails, FailAs as FailsAs, Cancel as Cancels}
use Rattle.cf_model.specs.declared.events.Reply.TheVariants.{Flag as ToldFlag}
use Rattle.cf_model.specs.Events.{cause_of}
use Rattle.cf_model.specs.States.{State, outcome_at}
use Rattle.cf_event.specs.declared.record.Record.{Record}
use Rattle.cf_event.specs.declared.record.Record.TheVariants.{Did}
use Rattle.cf_desk.specs.declared.calls.Closed.{Closed}
use Rattle.cf_desk.specs.Keepings.{caller_kept}

-- the stage that an event completes, fails or cancels, and with what
abbrev pub settles : Event → Option (ℕ × Outcome)
settles (Completes who i v) = Some (i, Gives v)
settles (Fails who i code) = Some (i, Fault (Thrown code) false)
settles (FailsAs who i failure) = Some (i, Fault (cause_of failure) false)
settles (Cancels who i) = Some (i, Fault Cancelled false)
settles event = None

-- one of these callers was told `true` to its event, which stands at this place
pub record WasTold (callers : List (ℕ × List Record)) (place : ℕ) (e : Event) : Type 0 where
  pub caller : ℕ × List Record
  pub one : Contains callers caller
  pub told : Contains caller.1 (Did place e (ToldFlag true))

-- A stage that a caller was told to have settled has that outcome at the end. And no other call was told so, but where all of them
-- are cancellations: each of those is told that the stage is cancelled.
pub record WhoeverSettledStays (callers : List (ℕ × List Record)) (end : State) : Type 0 where
  pub stays : (p i : ℕ) (e : Event) (o : Outcome) → settles e ≡ Some (i, o) → WasTold callers p e → outcome_at end i ≡ Some o
  pub one : (p q i : ℕ) (e f : Event) (o u : Outcome) → settles e ≡ Some (i, o) → settles f ≡ Some (i, u) → WasTold callers p e → WasTold callers q f → is_cancelled o ≡ false →
      (p ≡ q) × (e ≡ f)

abbrev pub SettlersStay : Closed → Type 0
SettlersStay closed = WhoeverSettledStays (map caller_kept closed.passes.items) closed.graph.state
