-- The state of a graph, and what follows from the settling of a stage.
use Rattle.std.specs.Prelude.{ℕ, Bool, true, false, position, Option, Some, None, List, [], ◌∷◌, ◌++◌, length, map, replicate, slice_get, slice_set, unwrap_or, option_and_then}
use Rattle.cf_outcome.specs.declared.outcome.Outcome.{Outcome}
use Rattle.cf_outcome.specs.Outcomes.{wrap}
use Rattle.cf_forms.specs.declared.forms.Form.{Form}
use Rattle.cf_forms.specs.declared.forms.Due.{Due}
use Rattle.cf_forms.specs.declared.forms.Due.TheVariants.{Waits, Settles, Needs}
use Rattle.cf_forms.specs.Forms.{follows}
use Rattle.cf_forms.specs.Plans.{Planned, PlannedStage, and_stage}
use Rattle.cf_model.specs.declared.stage.Stage.{Stage}
use Rattle.cf_model.specs.declared.stage.Stage.TheVariants.{Pending, Ready, Linked, Settled}

-- the plan, each stage's state, for each stage the caller whose claim is open, the last moment, and how many limits are used
pub record State : Type 0 where
  pub plan : Planned
  pub stages : List Stage
  pub claims : List (Option ℕ)
  pub moment : ℕ
  pub used : ℕ

-- the outcome of a settled stage
abbrev pub outcome_of : Stage → Option Outcome
outcome_of (Settled o) = Some o
outcome_of _ = None

abbrev pub outcome_in : List Stage → ℕ → Option Outcome
outcome_in stages i = option_and_then outcome_of (slice_get stages i)

-- what a pending stage becomes by what is due
abbrev pub due_state : Due → Stage
due_state Waits = Pending
due_state (Settles o) = Settled o
due_state (Needs args) = Ready args

-- what a stage that is linked to j becomes by the outcome of j
abbrev pub linked_state : ℕ → Option Outcome → Stage
linked_state j None = Linked j
linked_state j (Some o) = Settled (wrap o)

-- The new state of a stage, given the new states of all stages below it.
abbrev pub next_of : List Stage → Form → List ℕ → Stage → Stage
next_of below form sources Pending = due_state (follows form (map (outcome_in below) sources))
next_of below form sources (Linked j) = linked_state j (outcome_in below j)
next_of below form sources stage = stage

-- The new states of these stages, in rising number, given the new states of those below them.
abbrev pub new_states : List Stage → List PlannedStage → List Stage → List Stage
new_states below [] stages = stages
new_states below (p ∷ plan) [] = []
new_states below (p ∷ plan) (stage ∷ stages) =
    let new = next_of below p.form p.sources stage in new ∷ new_states (below ++ new ∷ []) plan stages

-- the stages once stage d is settled with o, unless it is settled already
abbrev pub stages_after : Option Outcome → List PlannedStage → List Stage → ℕ → Outcome → List Stage
stages_after (Some old) plan stages d o = stages
stages_after None plan stages d o = new_states [] plan (slice_set stages d (Settled o))

-- The state once stage d is settled with o, and each stage has taken what its sources then give. A settled stage d stays as it is.
abbrev pub after : State → ℕ → Outcome → State
after s d o = record s { stages = stages_after (outcome_in s.stages d) s.plan.stages s.stages d o }

-- the state at the opening
abbrev pub start : Planned → State
start plan =
    record {
      plan = plan;
      stages = new_states [] plan.stages (replicate (length plan.stages) Pending);
      claims = replicate (length plan.stages) None;
      moment = 0;
      used = 0;
    }

-- the state in which each stage has taken what its sources give
abbrev pub flowed : State → State
flowed s = record s { stages = new_states [] s.plan.stages s.stages }

-- the state with one stage more, which is pending
abbrev pub appended : State → PlannedStage → State
appended s new = record s { plan = and_stage s.plan new; stages = s.stages ++ Pending ∷ []; claims = s.claims ++ None ∷ [] }

-- stage i, its outcome, and the caller whose claim on it is open
abbrev pub stage_at : State → ℕ → Stage
stage_at s i = unwrap_or (slice_get s.stages i) Pending

abbrev pub outcome_at : State → ℕ → Option Outcome
outcome_at s i = outcome_in s.stages i

abbrev pub claim_at : State → ℕ → Option ℕ
claim_at s i = unwrap_or (slice_get s.claims i) None

-- the lowest ready stage
abbrev pub is_ready : Stage → Bool
is_ready (Ready args) = true
is_ready stage = false

abbrev pub lowest_ready_of : State → Option ℕ
lowest_ready_of s = position is_ready s.stages
