-- A write to a stage that neither had nor gets an outcome.
use Rattle.std.specs.Prelude.{◌≡◌, ℕ, ◌<◌, None, List, [], slice_set}
use Rattle.cf_forms.specs.Plans.{PlannedStage}
use Rattle.cf_model.specs.declared.stage.Stage.TheVariants.{Claimed, Linked}
use Rattle.cf_model.specs.States.{outcome_in}
use Rattle.cf_core.specs.declared.kept.KeptStage.{KeptStage}
use Rattle.cf_core.specs.Keeping.Treatment.{all_treated, stages_of}

-- Claiming a stage that isn't settled changes nothing else of what all treatments lead to.
abbrev pub ClaimingIsAlone : Type 0
ClaimingIsAlone =
    (plan : List PlannedStage) (kept : List KeptStage) (d step : ℕ) →
    outcome_in (stages_of (all_treated [] plan kept)) d ≡ None →
    stages_of (all_treated [] plan (slice_set kept d (record { stage = Claimed; step = step })))
    ≡ slice_set (stages_of (all_treated [] plan kept)) d Claimed

-- Linking a stage that isn't settled to a lower one that isn't settled changes nothing else of it.
abbrev pub LinkingIsAlone : Type 0
LinkingIsAlone =
    (plan : List PlannedStage) (kept : List KeptStage) (d j step : ℕ) → j < d →
    outcome_in (stages_of (all_treated [] plan kept)) d ≡ None → outcome_in (stages_of (all_treated [] plan kept)) j ≡ None →
    stages_of (all_treated [] plan (slice_set kept d (record { stage = Linked j; step = step })))
    ≡ slice_set (stages_of (all_treated [] plan kept)) d (Linked j)
