-- How a graph keeps its state.
use Rattle.std.specs.Prelude.{◌≡◌, ◌≤◌, ◌+◌, ℕ, Option, Some, List, length, slice_get, true}
use Rattle.cf_forms.specs.Plans.{IsGrowing, Planned}
use Rattle.cf_core.specs.declared.kept.KeptStage.{KeptStage}
use Rattle.cf_core.specs.declared.stages.Stages.{Stages}
use Rattle.cf_core.specs.Keeping.Sound.{is_taken, kept_at}
use Rattle.cf_core.specs.Keeping.SoundStages.{AreSound, HasRoom}

-- a stage that someone's claim is open on is claimed or settled
abbrev pub AreClaimed : List (Option ℕ) → List KeptStage → Type 0
AreClaimed claims kept = (i who : ℕ) → slice_get claims i ≡ Some (Some who) → is_taken ((kept_at kept i).stage) ≡ true

-- The plan is one that grows, its stages are sound, there is a claim or none for each of them, there is room for all that may be attached, and no more limits are used than there are.
pub record IsInStep (plan : Planned) (stages : Stages) (claims : List (Option ℕ)) (capacity used : ℕ) : Type 0 where
  pub growing : IsGrowing plan
  pub sound : AreSound plan.stages stages
  pub all_claims : length claims ≡ length plan.stages
  pub claimed : AreClaimed claims stages.kept.items
  pub stages_room : HasRoom plan.opened (length plan.stages + plan.room) stages
  pub claims_room : length plan.stages + plan.room ≤ capacity
  pub few_used : used ≤ length plan.limits
