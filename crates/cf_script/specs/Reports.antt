-- What a script writes.
use Rattle.std.specs.Prelude.{ℕ, ◌+◌, List, [], ◌∷◌, ◌++◌, Option, codes}
use Rattle.std.specs.Fmt.{decimal}
use Rattle.cf_outcome.specs.declared.outcome.Outcome.{Outcome}
use Rattle.cf_forms.specs.Plans.{PlannedStage}
use Rattle.cf_model.specs.States.{State, outcome_at, start}
use Rattle.cf_model.specs.Events.{answered, told}
use Rattle.cf_script_reading.specs.declared.func.Func.{Func}
use Rattle.cf_script_reading.specs.declared.script.Step.{Step}
use Rattle.cf_script_reading.specs.declared.script.Step.TheVariants.{Does, Asks, Work, Nudge}
use Rattle.cf_script_reading.specs.Scripts.{Script, opening}
use Rattle.cf_script.specs.declared.steps.StepAnswer.{StepAnswer}
use Rattle.cf_script.specs.declared.steps.StepAnswer.TheVariants as answers
use Rattle.cf_text.specs.Texts.{line, reply_text, settled_text, told_text}
use Rattle.cf_script.specs.Working.{worked}

-- what a step is answered
abbrev pub step_answer : List Func → State → Step → StepAnswer
step_answer functions s (Does e) = answers.Replied ((answered s e).0)
step_answer functions s (Asks a) = answers.Told (told s a)
step_answer functions s Work = answers.Worked ((worked functions s).0)
step_answer functions s (Nudge k) = answers.Nudged

-- the text of that
abbrev pub answer_text : StepAnswer → List ℕ
answer_text (answers.Replied reply) = reply_text reply
answer_text (answers.Told told) = told_text told
answer_text (answers.Worked calls) = codes "worked " ++ decimal calls
answer_text answers.Nudged = codes "nudged"

-- what a step writes
abbrev pub step_text : List Func → State → Step → List ℕ
step_text functions s x = answer_text (step_answer functions s x)

-- the state that a step leaves
abbrev pub after_step : List Func → State → Step → State
after_step functions s (Does e) = (answered s e).1
after_step functions s (Asks a) = s
after_step functions s Work = (worked functions s).1
after_step functions s (Nudge k) = s

-- the lines of steps, one after another
abbrev pub steps_lines : List Func → State → List Step → List ℕ
steps_lines functions s [] = []
steps_lines functions s (x ∷ xs) = line (step_text functions s x) ++ steps_lines functions (after_step functions s x) xs

-- the state that steps leave
abbrev pub after_steps : List Func → State → List Step → State
after_steps functions s [] = s
after_steps functions s (x ∷ xs) = after_steps functions (after_step functions s x) xs

-- the line of stage i, with its outcome or none
abbrev pub stage_text : ℕ → Option Outcome → List ℕ
stage_text i outcome = codes "stage " ++ decimal i ++ codes " " ++ settled_text outcome

-- a line for each of these stages, the first being stage i, with these outcomes
abbrev pub stage_lines : (ℕ → Option Outcome) → ℕ → List PlannedStage → List ℕ
stage_lines outcomes i [] = []
stage_lines outcomes i (p ∷ stages) = line (stage_text i (outcomes i)) ++ stage_lines outcomes (i + 1) stages

-- the lines of all stages of a state
abbrev pub stages_lines : State → List ℕ
stages_lines s = stage_lines (outcome_at s) 0 s.plan.stages

-- the lines of the steps in order, then those of the stages as the steps leave them
abbrev pub report : Script → List ℕ
report said =
    let s = start (opening said) in
    steps_lines said.functions s said.steps ++ stages_lines (after_steps said.functions s said.steps)
