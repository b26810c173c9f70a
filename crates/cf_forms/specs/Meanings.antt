-- What the functions of stages mean.
use Rattle.std.specs.Prelude.{ℕ, List, slice_get, unwrap_or}
use Rattle.std.specs.Option.{option_map_or}
use Rattle.cf_outcome.specs.declared.outcome.Value.TheVariants.{Nil}
use Rattle.cf_forms.specs.declared.forms.Args.{Args}
use Rattle.cf_forms.specs.declared.forms.Answer.{Answer}
use Rattle.cf_forms.specs.declared.forms.Answer.TheVariants.{Give}
use Rattle.cf_forms.specs.Plans.{PlannedStage, function_at}

-- what functions answer to their arguments, by their numbers
abbrev pub Meanings : Type 0
Meanings = ℕ → Args → Answer

-- what the functions of a list mean by their places in it; nil where there is none
abbrev pub meanings_of : {F : Type 0} → (F → Args → Answer) → List F → Meanings
meanings_of meaning functions n args = option_map_or (λ f. meaning f args) (slice_get functions n) (Give Nil)

-- What the function of stage i answers. A stage without one is never ready, and so is never asked; function 0 stands for it here.
abbrev pub stage_answer : Meanings → List PlannedStage → ℕ → Args → Answer
stage_answer meanings stages i args = meanings (unwrap_or (function_at stages i) 0) args
