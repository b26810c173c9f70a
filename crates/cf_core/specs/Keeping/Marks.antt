-- Stages that wait by what their sources have now need no treatment.
use Rattle.std.specs.Prelude.{◌≡◌, ◌≢◌, ℕ, ◌<◌, Some, List, [], take, slice_get, slice_set, Contains}
use Rattle.cf_forms.specs.Plans.{PlannedStage}
use Rattle.cf_model.specs.declared.stage.Stage.TheVariants.{Linked}
use Rattle.cf_core.specs.declared.kept.KeptStage.{KeptStage}
use Rattle.cf_core.specs.Keeping.Treatment.{treated, IsSteady}

-- a stage stays as it is when it is treated by what all stages have now
abbrev pub WaitsNow : List KeptStage → PlannedStage → KeptStage → Type 0
WaitsNow kept p k = treated kept p k ≡ k

-- where each of the first m stages waits by the stages below it, all of them are steady
abbrev pub SteadyByStage : Type 0
SteadyByStage =
    (plan : List PlannedStage) (kept : List KeptStage) (m : ℕ) →
    ((i : ℕ) (p : PlannedStage) (k : KeptStage) → i < m → slice_get plan i ≡ Some p → slice_get kept i ≡ Some k → WaitsNow (take i kept) p k) →
    IsSteady [] plan kept m

-- a stage that doesn't name a written stage waits as before
abbrev pub OthersWait : Type 0
OthersWait =
    (kept : List KeptStage) (d : ℕ) (new : KeptStage) (p : PlannedStage) (k : KeptStage) →
    ((j : ℕ) → Contains p.sources j → j ≢ d) → ((j : ℕ) → k.stage ≡ Linked j → j ≢ d) →
    WaitsNow kept p k → WaitsNow (slice_set kept d new) p k
