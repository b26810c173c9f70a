-- What one history shows.
use Rattle.std.specs.Prelude.{◌≡◌, ℕ, ◌-◌, ◌<◌, ◌≤◌, Some, List, length, map, slice_get}
use Rattle.std.specs.List.{All}
use Rattle.cf_outcome.specs.declared.outcome.Outcome.{Outcome}
use Rattle.cf_forms.specs.Plans.{IsBuilt, Planned}
use Rattle.cf_forms.specs.Meanings.{Meanings}
use Rattle.cf_model.specs.States.{State, claim_at, outcome_at, start}
use Rattle.cf_model.specs.declared.events.Event.{Event}
use Rattle.cf_model.specs.Events.{state_at}
use Rattle.cf_model.specs.Laws.{grants_of}
use Rattle.cf_expr.specs.Expressions.{expr}
use Rattle.cf_expr.specs.Histories.{IsPlain, IsPlainPlan, IsQuiet, nothing_granted}
use Rattle.cf_event.specs.declared.record.Record.{Record}
use Rattle.cf_event.specs.Events.{own}
use Rattle.cf_event.specs.Histories.{IsOneHistory, dids}
use Rattle.cf_desk.specs.Log.{Catches, state_from}

abbrev pub place_of : ℕ × Event → ℕ
place_of e = e.0

abbrev pub call_of : ℕ × Event → Event
call_of e = e.1

-- the event stands at its place in the history
abbrev pub StandsAt : List Event → ℕ × Event → Type 0
StandsAt history e = slice_get history (place_of e - 1) ≡ Some (call_of e)

-- a caller's changing calls are its events in the history, once each and in order, and each stands at its place
abbrev pub StandOnce : List Event → ℕ × List Record → Type 0
StandOnce history k = (map call_of (dids k.1) ≡ own k.0 history) × All (StandsAt history) (dids k.1)

-- Of one history: each caller's changing calls stand once, in order and at their places. A settled stage keeps its outcome at each
-- later place, and of the claims of a stage one at most is granted. Where the graph's plan, as it has grown, and the history are plain
-- and the graph is quiet, it holds the expressions' outcomes.
pub record Shows (plan : Planned) (history : List Event) (callers : List (ℕ × List Record)) (graph : State) : Type 0 where
  pub calls : All (StandOnce history) callers
  pub settled_once : (i p q : ℕ) (o : Outcome) → p ≤ q → outcome_at (state_at plan history p) i ≡ Some o → outcome_at (state_at plan history q) i ≡ Some o
  pub claimed_once : (i : ℕ) → grants_of i (start plan) history ≤ 1
  pub expressed : IsBuilt graph.plan → IsPlainPlan graph.plan → IsQuiet graph → (meanings : Meanings) → IsPlain meanings nothing_granted (start plan) history →
      (i : ℕ) → i < length graph.plan.stages → outcome_at graph i ≡ expr graph.plan history meanings i

-- one history, with the graph as it leaves it, shows this
abbrev pub OneHistoryShows : Type 0
OneHistoryShows =
    (plan : Planned) (functions : ℕ) (history : List Event) (callers : List (ℕ × List Record)) (graph : State) →
    IsOneHistory plan functions history callers → graph ≡ state_from plan history → Shows plan history callers graph

-- a claim that a caller has open after the events that it has seen is open after those of others that follow, too
abbrev pub ClaimsStayOpen : Type 0
ClaimsStayOpen =
    (plan : Planned) (caller i : ℕ) (before now : List Event) → Catches caller before now → claim_at (state_from plan before) i ≡ Some caller → claim_at (state_from plan now) i ≡ Some caller
