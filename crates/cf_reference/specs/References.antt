-- The reference graph.
use Rattle.std.specs.Prelude.{◌≡◌, ◌≤◌, ◌++◌, ℕ, Option, List, drop, length, take}
use Rattle.cf_forms.specs.Plans.{IsGrowing, Planned, PlannedStage}
use Rattle.cf_model.specs.declared.stage.Stage.{Stage}
use Rattle.cf_model.specs.States.{State}
use Rattle.cf_forms.specs.declared.limits.Limit.{Limit}

-- the plan of an opening once these stages are attached, with room for so many more
abbrev pub grown : Planned → List PlannedStage → ℕ → Planned
grown opening attached room =
    record { stages = opening.stages ++ attached; limits = opening.limits; opened = length opening.stages; room = room }

-- the first n limits that weren't used yet
abbrev pub next_limits : State → ℕ → List Limit
next_limits s n = take n (drop s.used s.plan.limits)

-- the plan is one that grows; there is a stage, and a claim or none, for each of its stages; no more limits are used than there are
pub record IsInStep (plan : Planned) (stages : List Stage) (claims : List (Option ℕ)) (used : ℕ) : Type 0 where
  pub growing : IsGrowing plan
  pub all_stages : length stages ≡ length plan.stages
  pub all_claims : length claims ≡ length plan.stages
  pub few_used : used ≤ length plan.limits
