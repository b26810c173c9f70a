-- Which functions a worker calls, and what its gate is told.
use Rattle.std.specs.Prelude.{◌≡◌, ℕ, ◌+◌, ◌<◌, ◌≤◌, ◌==◌, Some, None, List, [], ◌∷◌, ◌++◌, length, unwrap_or, if◌then◌else◌}
use Rattle.cf_forms.specs.declared.forms.Answer.{Answer}
use Rattle.std.specs.List.{All}
use Rattle.cf_forms.specs.declared.forms.Args.{Args}
use Rattle.cf_pool.specs.Answering.{Answers}
use Rattle.cf_forms.specs.Plans.{PlannedStage, function_at}
use Rattle.cf_model.specs.Calling.{CallsOf}
use Rattle.cf_model.specs.declared.calls.Call.TheVariants.{Finish}
use Rattle.cf_desk.specs.declared.calls.Rec.{Rec}
use Rattle.cf_desk.specs.declared.calls.Rec.TheVariants.{Did}
use Rattle.cf_desk.specs.Views.{Pass, state_of}
use Rattle.cf_pool.specs.Works.{Owed, owed_by}

-- what a gate does: from the first memory, being told that a caller runs a stage next leaves the second memory
abbrev pub TellsOf : Type 0 → Type 1
TellsOf M = M → ℕ → ℕ → M → Type 0

-- from memory m to n, the gate is told that this caller runs stage i, and then the function of the stage is called once with these arguments, and answers so
pub record RunsStage {M : Type 0} (tells : TellsOf M) (calls : CallsOf M) (stages : List PlannedStage) (who i : ℕ) (args : Args) (answer : Answer) (m n : M) : Type 0 where
  pub there : i < length stages
  pub before : M
  pub told : tells m i who before
  pub called : calls before (unwrap_or (function_at stages i) 0) args answer n

-- the record is the finish of stage i with this answer
abbrev pub IsFinish : ℕ → Answer → Rec → Type 0
IsFinish i answer (Did place (Finish j given) reply) = (j ≡ i) × (given ≡ answer)
IsFinish i answer r = ⊥

-- that is the first of these records, unless there is none
abbrev pub BeginWithFinish : ℕ → Answer → List Rec → Type 0
BeginWithFinish i answer [] = Unit {0}
BeginWithFinish i answer (r ∷ rs) = IsFinish i answer r

-- a claim that was granted runs its stage, and the records that follow begin with the finish; any other record leaves the memory as it was
abbrev pub RunsGranted : {M : Type 0} → TellsOf M → CallsOf M → List PlannedStage → ℕ → Owed → List Rec → M → M → Type 0
RunsGranted tells calls stages who None rs m n = n ≡ m
RunsGranted tells calls stages who (Some owed) rs m n = (answer : Answer) × RunsStage tells calls stages who owed.0 owed.1 answer m n × BeginWithFinish owed.0 answer rs

-- so it goes from record to record, and nothing else happens to the memory
abbrev pub AreCalled : {M : Type 0} → TellsOf M → CallsOf M → List PlannedStage → ℕ → List Rec → M → M → Type 0
AreCalled tells calls stages who [] m n = n ≡ m
AreCalled {M} tells calls stages who (r ∷ rs) m n = (k : M) × RunsGranted tells calls stages who (owed_by r) rs m k × AreCalled tells calls stages who rs k n

-- how often the function of stage i is called for these records
abbrev pub calls_by : ℕ → Owed → ℕ
calls_by i None = 0
calls_by i (Some owed) = if i == owed.0 then 1 else 0

abbrev pub calls_of : ℕ → List Rec → ℕ
calls_of i [] = 0
calls_of i (r ∷ rs) = calls_by i (owed_by r) + calls_of i rs

-- how often it is called for the records of all these callers
abbrev pub calls_of_all : ℕ → List (ℕ × List Rec) → ℕ
calls_of_all i [] = 0
calls_of_all i (k ∷ ks) = calls_of i k.1 + calls_of_all i ks

-- This caller's records went on, and they are all for which the memory has changed from m to n.
pub record Calls {M : Type 0} (tells : TellsOf M) (calls : CallsOf M) (stages : List PlannedStage) (who : ℕ) (records now : List Rec) (m n : M) : Type 0 where
  pub more : List Rec
  pub is : now ≡ records ++ more
  pub called : AreCalled tells calls stages who more m n

-- For each claim that this caller was granted since, in turn, and never else: the gate was told of it, and then the function of the
-- stage was called once with the claim's arguments, and the stage finished with the answer, unless that finish was refused. No stage's
-- function was called twice.
pub record CallsOnce {M : Type 0} (tells : TellsOf M) (calls : CallsOf M) (stages : List PlannedStage) (who : ℕ) (records now : List Rec) (m n : M) : Type 0 where
  pub each : Calls tells calls stages who records now m n
  pub once : (i : ℕ) → calls_of i each.more ≤ 1

-- the same of a pass that was p and is q now, by the plan as it has seen it
abbrev pub HasCalled : {M : Type 0} → TellsOf M → CallsOf M → Pass → Pass → M → M → Type 0
HasCalled tells calls p q m n = Calls tells calls (state_of q.known).plan.stages p.known.caller p.records q.records m n

abbrev pub HasCalledOnce : {M : Type 0} → TellsOf M → CallsOf M → Pass → Pass → M → M → Type 0
HasCalledOnce tells calls p q m n = CallsOnce tells calls (state_of q.known).plan.stages p.known.caller p.records q.records m n

-- the caller of this pass runs stage i once, of the plan as the pass has seen it
abbrev pub RunsStageOf : {M : Type 0} → TellsOf M → CallsOf M → Pass → ℕ → Args → Answer → M → M → Type 0
RunsStageOf tells calls p i args answer m n = RunsStage tells calls (state_of p.known).plan.stages p.known.caller i args answer m n

-- the same of each of these passes, with its records now, as the memory of its worker goes from one to the other
abbrev pub EachCalls : {M : Type 0} → TellsOf M → CallsOf M → List PlannedStage → List Pass → List (List Rec) → List M → List M → Type 0
EachCalls tells calls stages [] [] [] [] = Unit {0}
EachCalls tells calls stages (p ∷ ps) (rs ∷ rss) (m ∷ ms) (n ∷ ns) = CallsOnce tells calls stages p.known.caller p.records rs m n × EachCalls tells calls stages ps rss ms ns
EachCalls tells calls stages ps rss ms ns = ⊥

-- what the functions of the first of these workers answer; none is determined where there is none
abbrev pub first_answers : {M : Type 0} → (M → Answers) → List M → Answers
first_answers answers [] = λ number args. None
first_answers answers (m ∷ ms) = answers m

-- the functions of all of them answer the same
abbrev pub AnswerAlike : {M : Type 0} → (M → Answers) → List M → Type 0
AnswerAlike {M} answers ms = All (λ (m : M). answers m ≡ first_answers answers ms) ms
