-- A sweep: all stages are treated and served in rising number, without a look at the marks.
use Rattle.std.specs.Prelude.{◌≡◌, ◌+◌, ℕ, if◌then◌else◌, Bool, true, false, List, [], ◌∷◌, None, Option, length, slice_set}
use Rattle.cf_forms.specs.Plans.{PlannedStage}
use Rattle.cf_forms.specs.declared.forms.Args.{Args}
use Rattle.cf_model.specs.declared.stage.Stage.{Stage}
use Rattle.cf_core.specs.declared.kept.KeptStage.{KeptStage}
use Rattle.cf_core.specs.declared.stages.Stages.{Stages}
use Rattle.cf_model.specs.Calling.{CallsOf}
use Rattle.cf_core.specs.Keeping.Serving.{ServesOnce}
use Rattle.cf_core.specs.Keeping.Sound.{AreTreated, IsSound, is_waiting, settled_view}
use Rattle.cf_core.specs.Keeping.Taking.{ready_with}

-- The first n stages are treated, and of the first m none is ready, with the marks and the ready stages that there would
-- be if each had been treated and served by calls.
pub record IsSwept (plan : List PlannedStage) (n m : ℕ) (kept : List KeptStage) (links : List (List ℕ)) (steps turns : ℕ) : Type 0 where
  pub marks : List Bool
  pub ready : List Bool
  pub sound : IsSound plan kept marks ready links steps turns
  pub treated : AreTreated n marks
  pub served : AreTreated m ready

abbrev pub AreSwept : List PlannedStage → ℕ → ℕ → Stages → Type 0
AreSwept plan n m s = IsSwept plan n m s.kept.items s.links s.steps s.turns

-- all stages are behind the sweep
abbrev pub AreAllSwept : List PlannedStage → Stages → Type 0
AreAllSwept plan s = AreSwept plan (length plan) (length plan) s

-- how many turns there were once a stage that waited is treated, by what it is then
abbrev pub turns_after : ℕ → Stage → ℕ
turns_after turns stage = if is_waiting stage then turns else turns + 1

-- stage m of a sweep is ready with these arguments, whether it is written as that or not
pub record IsReadyWith (plan : List PlannedStage) (m : ℕ) (args : Args) (s : Stages) : Type 0 where
  pub swept : IsSwept plan (m + 1) m (ready_with s.kept.items m args) s.links s.steps s.turns
  pub same : settled_view plan (ready_with s.kept.items m args) ≡ settled_view plan s.kept.items

-- stage i of a sweep is served, and no claim of it is open then; or it isn't ready, and nothing is called
abbrev pub Visits : {M : Type 0} → CallsOf M → List PlannedStage → Bool → List Stage → List (Option ℕ) → M → ℕ → List Stage → List (Option ℕ) → M → Type 0
Visits calls plan true stages claims m i after closed n = ServesOnce calls plan stages m i after n × (closed ≡ slice_set claims i None)
Visits calls plan false stages claims m i after closed n = (after ≡ stages) × (closed ≡ claims) × (n ≡ m)

-- these stages are served, one after another, and no claim of them is open then
abbrev pub AreServed : {M : Type 0} → CallsOf M → List PlannedStage → List Stage → List (Option ℕ) → M → List ℕ → List Stage → List (Option ℕ) → M → Type 0
AreServed calls plan stages claims m [] after closed n = (after ≡ stages) × (closed ≡ claims) × (n ≡ m)
AreServed {M} calls plan stages claims m (i ∷ rest) after closed n =
    (next : List Stage) × (k : M) × ServesOnce calls plan stages m i next k × AreServed calls plan next (slice_set claims i None) k rest after closed n

-- so many are
pub record Serves {M : Type 0} (calls : CallsOf M) (plan : List PlannedStage) (stages : List Stage) (claims : List (Option ℕ)) (m : M) (count : ℕ) (after : List Stage) (closed : List (Option ℕ)) (n : M) : Type 0 where
  pub which : List ℕ
  pub served : AreServed calls plan stages claims m which after closed n
  pub counted : length which ≡ count
