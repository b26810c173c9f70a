-- What becomes of the stages when a ready one is claimed, its function called, and the stage finished at once.
use Rattle.std.specs.Prelude.{◌≡◌, ℕ, List, None, Option, Some, position, slice_get, slice_set, unwrap_or}
use Rattle.cf_forms.specs.declared.forms.Args.{Args}
use Rattle.cf_forms.specs.declared.forms.Answer.{Answer}
use Rattle.cf_forms.specs.Plans.{PlannedStage, function_at}
use Rattle.cf_model.specs.declared.stage.Stage.{Stage}
use Rattle.cf_model.specs.declared.stage.Stage.TheVariants.{Claimed, Ready}
use Rattle.cf_model.specs.Calling.{CallsOf, RunsOnce}
use Rattle.cf_model.specs.States.{State, is_ready}
use Rattle.cf_core.specs.Keeping.Landings.{landed_stages, landing_at}

-- stage i, which is ready, lands with this answer
abbrev pub served : List PlannedStage → List Stage → ℕ → Answer → List Stage
served plan stages i answer = landed_stages plan (slice_set stages i Claimed) i (landing_at plan stages i answer)

-- stage i, the lowest ready one, lands with the answer of one call of its function, which takes the memory m to n
pub record ServesOnce {M : Type 0} (calls : CallsOf M) (plan : List PlannedStage) (stages : List Stage) (m : M) (i : ℕ) (after : List Stage) (n : M) : Type 0 where
  pub lowest : position is_ready stages ≡ Some i
  pub args : Args
  pub ready : slice_get stages i ≡ Some (Ready args)
  pub answer : Answer
  pub called : calls m (unwrap_or (function_at plan i) 0) args answer n
  pub lands : after ≡ served plan stages i answer

-- the stage that was found runs, if there was one
abbrev pub RunsNext : {M : Type 0} → CallsOf M → ℕ → State → M → Option ℕ → State → M → Type 0
RunsNext calls who s m (Some i) t n = RunsOnce calls who s m i t n
RunsNext calls who s m None t n = (t ≡ s) × (n ≡ m)
