-- The laws of plain histories.
use Rattle.std.specs.Prelude.{◌≡◌, ℕ, ◌<◌, List, ◌++◌, length}
use Rattle.cf_forms.specs.Plans.{Planned, IsBuilt}
use Rattle.cf_model.specs.declared.events.Event.{Event}
use Rattle.cf_model.specs.States.{State, start, outcome_at}
use Rattle.cf_model.specs.Events.{state_after}
use Rattle.cf_forms.specs.Meanings.{Meanings}
use Rattle.cf_expr.specs.Expressions.{expr}
use Rattle.cf_expr.specs.Histories.{Grants, IsPlain, IsPlainPlan, IsQuiet, grants_after, nothing_granted, without_work}

-- After a plain history that ends quiet, the outcome of each stage of the plan that was reached is its expression's.
abbrev pub QuietIsExpression : Type 0
QuietIsExpression =
    (plan : Planned) (events : List Event) (meanings : Meanings) (i : ℕ) →
    let last = state_after (start plan) events in
    IsBuilt last.plan → IsPlainPlan last.plan → IsPlain meanings nothing_granted (start plan) events → IsQuiet last →
    i < length last.plan.stages → outcome_at last i ≡ expr last.plan events meanings i

-- Claims and finishes change no expression, whoever does them, in whatever order and wherever they stand among the other
-- events: two histories that differ in them alone have the same expressions.
abbrev pub WorkKeepsExpressions : Type 0
WorkKeepsExpressions =
    (plan : Planned) (events others : List Event) (meanings : Meanings) (i : ℕ) →
    without_work events ≡ without_work others → expr plan events meanings i ≡ expr plan others meanings i

-- A plain history goes on plainly where what comes next is plain by what was granted before.
abbrev pub PlainPartsJoin : Type 0
PlainPartsJoin =
    (meanings : Meanings) (granted : Grants) (s : State) (events more : List Event) →
    IsPlain meanings granted s events → IsPlain meanings (grants_after granted s events) (state_after s events) more →
    IsPlain meanings granted s (events ++ more)
