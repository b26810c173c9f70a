-- One step of a caller of a ledger, as C has it.
use Rattle.std.specs.Prelude.{◌≡◌, ℕ, Option, Some, None, Result, Ok, Err, List, length}
use Rattle.cf_ledger.specs.declared.faults.StepFault.{StepFault}
use Rattle.cf_ledger.specs.declared.faults.StepFault.TheVariants as faults
use Rattle.cf_ledger.specs.declared.step.Finish.{Finish}
use Rattle.cf_ledger.specs.declared.step.Step.{Step as Step'}
use Rattle.cf_ledger.specs.declared.step.Taken.{Taken}
use Rattle.cf_ledger.specs.Ledgers.{Ledger as Ledger', state_of}
use Rattle.cf_ledger.specs.Steps.{IsNoStep, Steps, finished_as}
use Rattle.cf_c_handles.specs.Ledgers.{HaveNews}
use Rattle.cf_c_handles.specs.Replies.{finish_number}
use Rattle.cf_c_handles.specs.Tasks.{held_by, holding}
use Rattle.cf_c_handles.specs.declared.code.Code.{Code}
use Rattle.cf_c_handles.specs.declared.code.Code.TheVariants.{NoMemory, NoStage, NoWord, NotHeld, Nothing, WrongKind}
use Rattle.cf_c_handles.specs.declared.handle.object.Object.{Object}
use Rattle.cf_c_handles.specs.declared.handle.object.Object.TheVariants.{Ledger}
use Rattle.cf_c_handles.specs.declared.values.stage.CfNews.{CfNews}
use Rattle.cf_c_handles.specs.declared.values.task.CfStep.{CfStep}
use Rattle.cf_c_handles.specs.declared.values.task.CfTask.{CfTask}

abbrev pub step_code : StepFault → Code
step_code faults.NoMemory = NoMemory
step_code faults.NoCaller = NoWord
step_code faults.NoStage = NoStage
step_code faults.NotHeld = NotHeld

-- the words of a step, or 0
abbrev pub finish_word : Option Finish → ℕ
finish_word None = 0
finish_word (Some f) = f.word

abbrev pub claim_word : Option Taken → ℕ
claim_word None = 0
claim_word (Some t) = t.word

-- how the finish went, or 0 where nothing was held
abbrev pub late_number : Option Finish → ℕ
late_number None = 0
late_number (Some f) = finish_number (finished_as f.late)

-- what was taken, or that nothing is ready
abbrev pub taken_code : Option Taken → Result (Unit {0}) Code
taken_code None = Err Nothing
taken_code (Some t) = Ok tt

-- the task holds what was taken, or nothing
abbrev pub task_with : CfTask → Option Taken → CfTask
task_with had None = record had { held = 0 }
task_with had (Some t) = holding had t.stage t.function t.args

-- the stages that the finish at a place changed are written, each as it is now
abbrev pub FinishNews : Ledger' → ℕ → Option Finish → List CfNews → List CfNews → ℕ → Type 0
FinishNews l place None old new count = (new ≡ old) × (count ≡ 0)
FinishNews l place (Some f) old new count = HaveNews l place old new count

-- a step is done, and C has its words and their place, the task, and the news of the finish
pub record HasStepped (l : Ledger') (had : CfStep × CfTask × List CfNews × ℕ) (step : Step') (r : Result (Unit {0}) Code) (new : Object) (has : CfStep × CfTask × List CfNews × ℕ) : Type 0 where
  pub now : Ledger'
  pub is : new ≡ Ledger now
  pub steps : Steps had.0.who (held_by had.1) had.0.from l step now
  pub told : r ≡ taken_code step.taken
  pub written : has.0 ≡ record had.0 { place = length l.events; finish = finish_word step.finish; claim = claim_word step.taken }
  pub task : has.1 ≡ task_with (record had.1 { finished = late_number step.finish }) step.taken
  pub news : FinishNews now (length l.events) step.finish had.2 has.2 has.3

-- what the ledger's step answers
abbrev pub IsStepTold : Ledger' → CfStep × CfTask × List CfNews × ℕ → Result Step' StepFault → Result (Unit {0}) Code → Object → CfStep × CfTask × List CfNews × ℕ → Type 0
IsStepTold l had (Ok step) r new has = HasStepped l had step r new has
IsStepTold l had (Err fault) r new has = IsNoStep had.0.who (held_by had.1) (state_of l) fault × (r ≡ Err (step_code fault)) × (new ≡ Ledger l) × (has ≡ had)

pub record IsStepOf (l : Ledger') (had : CfStep × CfTask × List CfNews × ℕ) (r : Result (Unit {0}) Code) (new : Object) (has : CfStep × CfTask × List CfNews × ℕ) : Type 0 where
  pub answer : Result Step' StepFault
  pub told : IsStepTold l had answer r new has

abbrev pub StepsLedger : Object → CfStep × CfTask × List CfNews × ℕ → Result (Unit {0}) Code → Object → CfStep × CfTask × List CfNews × ℕ → Type 0
StepsLedger (Ledger l) had r new has = IsStepOf l had r new has
StepsLedger held had r new has = (r ≡ Err WrongKind) × (new ≡ held) × (has ≡ had)
