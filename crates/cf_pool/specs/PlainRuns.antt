-- What a run of plain work ends as.
use Rattle.std.specs.Prelude.{◌≡◌, ℕ, ◌<◌, false, List, [], ◌∷◌, length, map}
use Rattle.std.specs.List.{All}
use Rattle.cf_forms.specs.Meanings.{Meanings}
use Rattle.cf_forms.specs.Plans.{IsBuilt, Planned}
use Rattle.cf_model.specs.declared.events.Event.{Event}
use Rattle.cf_model.specs.States.{State, outcome_at, start}
use Rattle.cf_expr.specs.Expressions.{expr}
use Rattle.cf_expr.specs.Histories.{IsPlain, IsPlainEvent, IsPlainPlan, IsQuiet, is_work, nothing_granted}
use Rattle.cf_desk.specs.declared.calls.Kept.{Kept}
use Rattle.cf_desk.specs.Laws.{call_of}
use Rattle.cf_desk.specs.Records.{dids}
use Rattle.cf_desk.specs.Views.{Desk, IsOf, Pass}
use Rattle.cf_pool.specs.Answering.{as_meant}
use Rattle.cf_pool.specs.declared.pool.Left.{Left}
use Rattle.cf_pool.specs.Closings.{RanOut}

-- the changing calls that a pass has made, in order
abbrev pub made_by : Pass → List Event
made_by p = map call_of (dids p.known.caller p.records)

-- the call is no work, and is plain where the desk was opened: it settles a source of the plan, attaches a stage, or tells a moment
-- before each limit's
abbrev pub IsPlainStep : Meanings → Planned → Event → Type 0
IsPlainStep meanings plan e = (is_work e ≡ false) × IsPlainEvent meanings nothing_granted (start plan) e

abbrev pub MadePlainSteps : Meanings → Planned → Pass → Type 0
MadePlainSteps meanings plan p = All (IsPlainStep meanings plan) (made_by p)

abbrev pub MadeNone : Pass → Type 0
MadeNone p = made_by p ≡ []

-- The graph is quiet and its history plain, so each stage of a plain plan holds its expression's outcome. Where one caller alone had
-- made calls before, the expressions are those of its calls.
pub record EndsPlainly (meanings : Meanings) (plan : Planned) (ps : List Pass) (history : List Event) (graph : State) : Type 0 where
  pub quiet : IsQuiet graph
  pub plain : IsPlain meanings nothing_granted (start plan) history
  pub expressed : IsBuilt graph.plan → IsPlainPlan graph.plan → (i : ℕ) → i < length graph.plan.stages →
      outcome_at graph i ≡ expr graph.plan history meanings i
  pub by_steps : (first : Pass) (others : List Pass) → ps ≡ first ∷ others → All MadeNone others → (i : ℕ) →
      expr graph.plan history meanings i ≡ expr graph.plan (made_by first) meanings i

-- what a run leaves ends plainly
abbrev pub LeavesPlainly : {M : Type 0} → Meanings → Planned → List Pass → Left M → Type 0
LeavesPlainly meanings plan ps left = EndsPlainly meanings plan ps left.closed.history.items left.closed.graph.state

-- Where all calls that the passes of a desk had made were plain steps, a run that answers Ok ends plainly.
abbrev pub RunsEndPlainly : Type 0
RunsEndPlainly =
    (meanings : Meanings) (d : Desk) (ps : List Pass) (history : List Event) (kept : List Kept) (graph : State) →
    All (IsOf d) ps → All (MadePlainSteps meanings d.setting.plan) ps → RanOut (as_meant meanings) d ps history kept graph →
    EndsPlainly meanings d.setting.plan ps history graph
