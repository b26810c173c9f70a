-- What workers answer that share a list of functions.
use Rattle.std.specs.Prelude.{◌≡◌, List}
use Rattle.cf_forms.specs.declared.forms.Answer.{Answer}
use Rattle.cf_forms.specs.declared.forms.Args.{Args}
use Rattle.cf_forms.specs.Meanings.{meanings_of}
use Rattle.cf_pool.specs.declared.workers.Shared.{Shared}
use Rattle.cf_pool.specs.Answering.{Answers, as_meant}
use Rattle.cf_pool.specs.Calling.{first_answers}

-- what the functions of a list answer, each at its number
abbrev pub list_answers : {F : Type 0} → (F → Args → Answer) → List F → Answers
list_answers meaning functions = as_meant (meanings_of meaning functions)

-- what a worker answers that shares such a list
abbrev pub shared_answers : {F G : Type 0} → (F → Args → Answer) → Shared F G → Answers
shared_answers meaning w = list_answers meaning w.functions.now

-- such workers answer as this list does
abbrev pub AnswerByList : {F G : Type 0} → (F → Args → Answer) → List F → List (Shared F G) → Type 0
AnswerByList meaning functions workers = first_answers (shared_answers meaning) workers ≡ list_answers meaning functions
