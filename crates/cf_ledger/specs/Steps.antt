-- One step of a caller of a ledger: it finishes what it holds, and takes the next ready stage.
use Rattle.std.specs.Prelude.{◌≡◌, ◌≢◌, ℕ, ◌<◌, ◌≤◌, Bool, true, false, Option, Some, None, length}
use Rattle.cf_forms.specs.Plans.{function_at}
use Rattle.cf_model.specs.declared.events.Event.TheVariants.{Claim as Claims, Finish as Finishes'}
use Rattle.cf_model.specs.declared.events.Reply.TheVariants.{Claim as ToldClaim, Finish as ToldFinish}
use Rattle.cf_model.specs.declared.replies.Claimed.TheVariants.{Granted}
use Rattle.cf_model.specs.declared.replies.Finished.{Finished}
use Rattle.cf_model.specs.declared.replies.Finished.TheVariants.{Won, Late}
use Rattle.cf_model.specs.Graphs.{NoneReady, stage_in}
use Rattle.cf_model.specs.States.{State, claim_at, is_ready}
use Rattle.cf_event.specs.Words.{word_of}
use Rattle.cf_ledger.specs.Ledgers.{Does, Ledger, stages_of, state_of}
use Rattle.cf_ledger.specs.declared.faults.StepFault.{StepFault}
use Rattle.cf_ledger.specs.declared.faults.StepFault.TheVariants.{NoMemory, NoCaller, NoStage, NotHeld}
use Rattle.cf_ledger.specs.declared.step.Finish.{Finish}
use Rattle.cf_ledger.specs.declared.step.Held.{Held}
use Rattle.cf_ledger.specs.declared.step.Step.{Step}
use Rattle.cf_ledger.specs.declared.step.Taken.{Taken}

abbrev pub finished_as : Bool → Finished
finished_as false = Won
finished_as true = Late

-- what is held is finished by the word for it, if anything is held
abbrev pub Finishes : ℕ → Option Held → Ledger → Option Finish → Ledger → Type 0
Finishes who None old None new = new ≡ old
Finishes who (Some h) old (Some f) new = (f.word ≡ word_of (Finishes' who h.stage h.answer)) × Does f.word old (ToldFinish (finished_as f.late)) new
Finishes who held old finish new = ⊥

-- the lowest ready stage from a number on
pub record IsNextReady (from : ℕ) (s : State) (i : ℕ) : Type 0 where
  pub above : from ≤ i
  pub there : i < length s.plan.stages
  pub ready : is_ready (stage_in s.stages i) ≡ true
  pub first : NoneReady from i s.stages

-- it is claimed by the word for it
pub record IsTakenBy (who from : ℕ) (old : Ledger) (t : Taken) (new : Ledger) : Type 0 where
  pub next : IsNextReady from (state_of old) t.stage
  pub word : t.word ≡ word_of (Claims who t.stage)
  pub done : Does t.word old (ToldClaim (Granted t.args)) new
  pub function : t.function ≡ function_at (state_of old).plan.stages t.stage

-- no stage from a number on is ready
abbrev pub NoneReadyFrom : ℕ → Ledger → Type 0
NoneReadyFrom from l = NoneReady from (stages_of l) (state_of l).stages

-- and where none is ready nothing is done
abbrev pub Takes : ℕ → ℕ → Ledger → Option Taken → Ledger → Type 0
Takes who from old None new = NoneReadyFrom from old × (new ≡ old)
Takes who from old (Some t) new = IsTakenBy who from old t new

-- what is held is finished, and then the next ready stage is taken
pub record Steps (who : ℕ) (held : Option Held) (from : ℕ) (old : Ledger) (step : Step) (new : Ledger) : Type 0 where
  pub between : Ledger
  pub finishes : Finishes who held old step.finish between
  pub takes : Takes who from between step.taken new

-- a stage that is held is there, and the caller has claimed it
abbrev pub IsHeld : ℕ → Option Held → State → Type 0
IsHeld who None s = Unit {0}
IsHeld who (Some h) s = (h.stage < length s.plan.stages) × (claim_at s h.stage ≡ Some who)

-- why a step isn't done: the first of these, want of memory being the last
abbrev pub IsNoStep : ℕ → Option Held → State → StepFault → Type 0
IsNoStep who held s NoCaller = 63 < who
IsNoStep who (Some h) s NoStage = (who ≤ 63) × (length s.plan.stages ≤ h.stage)
IsNoStep who (Some h) s NotHeld = (who ≤ 63) × (h.stage < length s.plan.stages) × (claim_at s h.stage ≢ Some who)
IsNoStep who held s NoMemory = (who ≤ 63) × IsHeld who held s
IsNoStep who None s fault = ⊥

-- memory is wanting only where none was found for two words before
abbrev pub IsShortOfTwo : ℕ → StepFault → Type 0
IsShortOfTwo free NoMemory = free < 2
IsShortOfTwo free fault = Unit {0}
