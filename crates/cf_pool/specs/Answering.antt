-- What functions answer.
use Rattle.std.specs.Prelude.{◌≡◌, ℕ, Option, Some, None, List, unwrap_or}
use Rattle.cf_forms.specs.declared.forms.Answer.{Answer}
use Rattle.cf_forms.specs.declared.forms.Args.{Args}
use Rattle.cf_forms.specs.Meanings.{Meanings}
use Rattle.cf_forms.specs.Plans.{PlannedStage, function_at}

-- what functions answer to their arguments, by their numbers, where these determine it
abbrev pub Answers : Type 0
Answers = ℕ → Args → Option Answer

-- it is this answer, where it is determined, and else any
abbrev pub IsAnswer : Option Answer → Answer → Type 0
IsAnswer None answer = Unit {0}
IsAnswer (Some determined) answer = answer ≡ determined

-- the function of stage i may answer so to these arguments
abbrev pub MayAnswer : Answers → List PlannedStage → ℕ → Args → Answer → Type 0
MayAnswer answers stages i args answer = IsAnswer (answers (unwrap_or (function_at stages i) 0) args) answer

-- functions that have meanings answer as they mean
abbrev pub as_meant : Meanings → Answers
as_meant meanings number args = Some (meanings number args)
