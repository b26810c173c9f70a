-- The headline, a sentence each: what the closed desk of a plan shows.
use Rattle.std.specs.Prelude.{◌≡◌, ℕ, ◌<◌, ◌≤◌, Some, List, length, map}
use Rattle.std.specs.List.{All, Contains}
use Rattle.cf_outcome.specs.declared.outcome.Outcome.{Outcome}
use Rattle.cf_forms.specs.Meanings.{Meanings}
use Rattle.cf_forms.specs.Plans.{IsBuilt, Planned}
use Rattle.cf_model.specs.Calls.{who_of}
use Rattle.cf_model.specs.Events.{state_after, state_at}
use Rattle.cf_model.specs.Laws.{grants_of}
use Rattle.cf_model.specs.States.{outcome_at, start}
use Rattle.cf_event.specs.declared.record.Record.{Record}
use Rattle.cf_event.specs.Events.{AreEventsOf, own}
use Rattle.cf_event.specs.Histories.{InOrder, IsAnswered, dids, numbers_of}
use Rattle.cf_expr.specs.Expressions.{expr}
use Rattle.cf_expr.specs.Histories.{IsPlain, IsPlainPlan, IsQuiet, nothing_granted}
use Rattle.cf_desk.specs.declared.calls.Closed.{Closed}
use Rattle.cf_desk.specs.Keepings.{AreKept, caller_kept}
use Rattle.cf_desk.specs.Laws.{StandsAt, call_of}
use Rattle.cf_desk.specs.Rule.{count_in}
use Rattle.cf_desk.specs.Views.{Pass, knowns}

-- each caller with its records
abbrev pub callers_of : Closed → List (ℕ × List Record)
callers_of closed = map caller_kept closed.passes.items

-- the outcome that a stage has after some events, it has after all later ones
abbrev pub StagesSettleOnce : Planned → Closed → Type 0
StagesSettleOnce plan closed =
    (i p q : ℕ) (o : Outcome) → p ≤ q → outcome_at (state_at plan closed.history.items p) i ≡ Some o → outcome_at (state_at plan closed.history.items q) i ≡ Some o

-- of all claims of a stage at most one is granted
abbrev pub StagesAreClaimedOnce : Planned → Closed → Type 0
StagesAreClaimedOnce plan closed = (i : ℕ) → grants_of i (start plan) closed.history.items ≤ 1

-- each caller's changing calls are its events in the history: all of them, once each, in the caller's order
abbrev pub CallsStandOnce : Closed → Type 0
CallsStandOnce closed = All (λ (k : ℕ × List Record). map call_of (dids k.1) ≡ own k.0 closed.history.items) (callers_of closed)

-- each of these calls stands at the place that its record tells
abbrev pub CallsStandAtTheirPlaces : Closed → Type 0
CallsStandAtTheirPlaces closed = All (λ (k : ℕ × List Record). All (StandsAt closed.history.items) (dids k.1)) (callers_of closed)

-- each reply is the sequential graph's after the events before its place, and each look's answer is the graph's at its place
abbrev pub AnswersAreTheGraphs : Planned → Closed → Type 0
AnswersAreTheGraphs plan closed = All (λ (k : ℕ × List Record). All (IsAnswered plan closed.history.items) k.1) (callers_of closed)

-- the places of what a caller was told never go back
abbrev pub PlacesNeverGoBack : Closed → Type 0
PlacesNeverGoBack closed = All (λ (k : ℕ × List Record). InOrder 0 k.1) (callers_of closed)

-- each event in the history is of one of these callers
abbrev pub NobodyElseStands : Closed → Type 0
NobodyElseStands closed = All (λ e. Contains (numbers_of (callers_of closed)) (who_of e)) closed.history.items

-- the graph takes each event as those before it leave it, and no function but one of so many is named
abbrev pub EventsAreTaken : Planned → ℕ → Closed → Type 0
EventsAreTaken plan functions closed = AreEventsOf (length (callers_of closed)) functions (start plan) closed.history.items

-- the graph is as the events leave it
abbrev pub GraphIsAfterEvents : Planned → Closed → Type 0
GraphIsAfterEvents plan closed = closed.graph.state ≡ state_after (start plan) closed.history.items

-- where the graph's plan, as it has grown, and the history are plain and the graph is quiet, it holds the expressions' outcomes
abbrev pub QuietGraphHoldsExpressions : Planned → Closed → Type 0
QuietGraphHoldsExpressions plan closed =
    IsBuilt closed.graph.state.plan → IsPlainPlan closed.graph.state.plan → IsQuiet closed.graph.state →
    (meanings : Meanings) → IsPlain meanings nothing_granted (start plan) closed.history.items →
    (i : ℕ) → i < length closed.graph.state.plan.stages → outcome_at closed.graph.state i ≡ expr closed.graph.state.plan closed.history.items meanings i

-- each pass stands in the place in which it was handed in, with its caller and its records: none twice, and none is left out
abbrev pub PassesStand : List Pass → Closed → Type 0
PassesStand passes closed = AreKept closed.passes.items passes

-- of these passes each of so many callers has one
abbrev pub CallersHaveOneEach : ℕ → List Pass → Type 0
CallersHaveOneEach callers passes = (c : ℕ) → c < callers → count_in c (knowns passes) ≡ 1
