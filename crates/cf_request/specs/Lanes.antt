-- Who is to run a stage's function.
use Rattle.std.specs.Prelude.{◌≡◌, ◌≢◌, ℕ, zero, suc, ◌+◌, ◌<◌, ◌==◌, ◌&&◌, true, Option, Some, None, List, cond, length}
use Rattle.cf_forms.specs.Plans.{function_at}
use Rattle.cf_model.specs.declared.events.Event.TheVariants.{Claim as Claims, Finish as Finishes'}
use Rattle.cf_model.specs.declared.events.Reply.TheVariants.{Claim as ToldClaim, Finish as ToldFinish}
use Rattle.cf_model.specs.declared.replies.Claimed.TheVariants.{Granted}
use Rattle.cf_model.specs.Graphs.{stage_in}
use Rattle.cf_model.specs.States.{State, is_ready}
use Rattle.cf_event.specs.Words.{word_of}
use Rattle.cf_ledger.specs.Ledgers.{stages_of, state_of}
use Rattle.cf_ledger.specs.Steps.{IsNoStep, finished_as}
use Rattle.cf_ledger.specs.declared.faults.StepFault.{StepFault}
use Rattle.cf_ledger.specs.declared.faults.StepFault.TheVariants.{NoMemory}
use Rattle.cf_ledger.specs.declared.step.Finish.{Finish}
use Rattle.cf_ledger.specs.declared.step.Held.{Held}
use Rattle.cf_ledger.specs.declared.step.Taken.{Taken}
use Rattle.cf_request.specs.Ready.{lane_of}
use Rattle.cf_request.specs.Telling.{Teller, TellsEvent}

-- no stage below a number is ready in a lane
abbrev pub NoneReadyIn : State → List ℕ → ℕ → ℕ → Type 0
NoneReadyIn s lanes lane n = (k : ℕ) → k < n → is_ready (stage_in s.stages k) ≡ true → lane_of lanes k ≢ lane

-- the lowest ready stage of a lane
pub record IsLowestIn (s : State) (lanes : List ℕ) (lane i : ℕ) : Type 0 where
  pub there : i < length s.plan.stages
  pub ready : is_ready (stage_in s.stages i) ≡ true
  pub its_lane : lane_of lanes i ≡ lane
  pub first : NoneReadyIn s lanes lane i

-- no stage of a lane is ready
abbrev pub NothingIsReady : Teller → ℕ → Type 0
NothingIsReady t lane = NoneReadyIn (state_of t.ledger) t.lanes.of lane (stages_of t.ledger)

-- how many stages below a number are ready in a lane
abbrev pub ready_below : State → List ℕ → ℕ → ℕ → ℕ
ready_below s lanes lane zero = 0
ready_below s lanes lane (suc k) =
    cond (is_ready (stage_in s.stages k) && (lane_of lanes k == lane)) 1 0 + ready_below s lanes lane k

-- how many stages of a lane are ready
abbrev pub ready_in : Teller → ℕ → ℕ
ready_in t lane = ready_below (state_of t.ledger) t.lanes.of lane (stages_of t.ledger)

-- nothing is held, and no stage of the lane is ready
abbrev pub IsIdle : ℕ → Option Held → Teller → Type 0
IsIdle lane None t = ready_in t lane ≡ 0
IsIdle lane (Some h) t = ⊥

-- why what is held can't be finished: the first of a step's reasons, without want of memory
abbrev pub IsNoFinish : ℕ → Option Held → State → StepFault → Type 0
IsNoFinish who held s NoMemory = ⊥
IsNoFinish who held s fault = IsNoStep who held s fault

-- what is held is finished by the word for it
pub record FinishesStage (who : ℕ) (h : Held) (old : Teller) (f : Finish) (new : Teller) : Type 0 where
  pub word : f.word ≡ word_of (Finishes' who h.stage h.answer)
  pub done : TellsEvent (Finishes' who h.stage h.answer) old (ToldFinish (finished_as f.late)) new

-- if anything is held
abbrev pub FinishesHeld : ℕ → Option Held → Teller → Option Finish → Teller → Type 0
FinishesHeld who None old None new = new ≡ old
FinishesHeld who (Some h) old (Some f) new = FinishesStage who h old f new
FinishesHeld who held old finish new = ⊥

-- the lowest ready stage of a lane is claimed by the word for it
pub record TakesStage (who lane : ℕ) (old : Teller) (t : Taken) (new : Teller) : Type 0 where
  pub lowest : IsLowestIn (state_of old.ledger) old.lanes.of lane t.stage
  pub word : t.word ≡ word_of (Claims who t.stage)
  pub done : TellsEvent (Claims who t.stage) old (ToldClaim (Granted t.args)) new
  pub function : t.function ≡ function_at (state_of old.ledger).plan.stages t.stage

-- none is claimed just where none is ready, and then nothing is done
abbrev pub TakesIn : ℕ → ℕ → Teller → Option Taken → Teller → Type 0
TakesIn who lane old None new = NothingIsReady old lane × (new ≡ old)
TakesIn who lane old (Some t) new = TakesStage who lane old t new
