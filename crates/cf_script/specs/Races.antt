-- What a race gives.
use Rattle.std.specs.Prelude.{◌≡◌, ◌+◌, ◌≤◌, ◌<◌, ℕ, List, [], ◌∷◌, length}
use Rattle.cf_forms.specs.Meanings.{meanings_of}
use Rattle.cf_forms.specs.Plans.{Planned}
use Rattle.cf_model.specs.declared.events.Event.{Event}
use Rattle.cf_model.specs.States.{State, start}
use Rattle.cf_expr.specs.Expressions.{expr}
use Rattle.cf_expr.specs.Histories.{IsPlain, IsPlainPlan, nothing_granted}
use Rattle.cf_script_reading.specs.declared.script.Step.{Step}
use Rattle.cf_script_reading.specs.declared.script.Step.TheVariants.{Does}
use Rattle.cf_script_reading.specs.Functions.{func_answer}
use Rattle.cf_script_reading.specs.Reading.{race_reading}
use Rattle.cf_script_reading.specs.Scripts.{Script, opening}
use Rattle.cf_pool.specs.Answering.{as_meant}
use Rattle.cf_pool.specs.Races.{IsRaced, log_words, plan_after}
use Rattle.cf_text.specs.declared.fault.ScriptFault.{ScriptFault}
use Rattle.cf_text.specs.declared.fault.ScriptFault.TheVariants as faults
use Rattle.cf_script.specs.Printing.{Given, MayGive}
use Rattle.cf_script.specs.Reports.{stage_lines, stages_lines}

-- the events of the steps that change something
abbrev pub events_of : List Step → List Event
events_of [] = []
events_of (Does e ∷ xs) = e ∷ events_of xs
events_of (x ∷ xs) = events_of xs

-- how many words the log of a race has, of which there may be 65,535: stages that steps may attach count as those that are there
abbrev pub words_of : ℕ → Script → ℕ
words_of workers s = log_words (length s.steps) (length s.plan.stages + s.room) workers

abbrev pub IsTooLargeToRace : ℕ → Script → Type 0
IsTooLargeToRace workers s = 65535 < words_of workers s

-- A race of this script may end in this state: the log isn't too long, and the state comes after a history that begins with the
-- steps and goes on with claims and finishes by the functions' meanings, by no more than so many workers beside caller 0, and
-- nothing is ready or claimed in it.
pub record IsRaceEnd (workers : ℕ) (s : Script) (end : State) : Type 0 where
  pub fits : words_of workers s ≤ 65535
  pub raced : IsRaced (as_meant (meanings_of func_answer s.functions)) (opening s) (events_of s.steps) workers end

-- the lines of the stages, as a race of this script may leave them
pub record IsRaceText (workers : ℕ) (s : Script) (text : List ℕ) : Type 0 where
  pub end : State
  pub ends : IsRaceEnd workers s end
  pub lines : text ≡ stages_lines end

-- why a script isn't raced: memory or a thread was refused, or the log would be too long
abbrev pub IsRaceRefused : ℕ → Script → ScriptFault → Type 0
IsRaceRefused workers s faults.NoMemory = Unit {0}
IsRaceRefused workers s faults.RaceSize = IsTooLargeToRace workers s
IsRaceRefused workers s fault = ⊥

-- what a race of this input may give
abbrev pub RaceGives : ℕ → List ℕ → Given → Type 0
RaceGives workers input = MayGive (race_reading input) (IsRaceText workers) (IsTooLargeToRace workers)

-- the plan as the steps leave it, with the stages that they attach
abbrev pub grown_by : Script → Planned
grown_by s = plan_after (opening s) (events_of s.steps)

-- a plan that is without either forms once it has grown, and steps that settle sources alone and reach no limit
pub record IsPlainScript (s : Script) : Type 0 where
  pub plan : IsPlainPlan (grown_by s)
  pub steps : IsPlain (meanings_of func_answer s.functions) nothing_granted (start (opening s)) (events_of s.steps)

-- Of a plain script a race gives the lines of the expressions, with however many workers.
abbrev pub PlainRacesGiveExpressions : Type 0
PlainRacesGiveExpressions =
    (workers : ℕ) (s : Script) (text : List ℕ) → IsRaceText workers s text → IsPlainScript s →
    text ≡ stage_lines (expr (grown_by s) (events_of s.steps) (meanings_of func_answer s.functions)) 0 (grown_by s).stages
