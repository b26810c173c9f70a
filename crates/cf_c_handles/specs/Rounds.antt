-- A round of several tasks of one caller of a graph.
use Rattle.std.specs.Prelude.{◌≡◌, ◌⊎◌, ℕ, suc, zero, ◌<◌, ◌==◌, false, Option, Some, None, Result, Ok, Err, List, [], ◌∷◌, All, MatchOption, length, nat_lt, slice_get, take, if◌then◌else◌}
use Rattle.std.specs.Option.{option_map, option_map_or}
use Rattle.cf_forms.specs.Plans.{function_at}
use Rattle.cf_model.specs.declared.replies.Claimed.{Claimed}
use Rattle.cf_model.specs.declared.replies.Claimed.TheVariants.{Granted}
use Rattle.cf_model.specs.Events.{claiming, finishing}
use Rattle.cf_model.specs.Graphs.{Graph as Graph'}
use Rattle.cf_model.specs.States.{State, claim_at, lowest_ready_of}
use Rattle.cf_ledger.specs.declared.step.Held.{Held}
use Rattle.cf_c_handles.specs.Replies.{finish_number}
use Rattle.cf_c_handles.specs.Tasks.{held_by, holding}
use Rattle.cf_c_handles.specs.declared.code.Code.{Code}
use Rattle.cf_c_handles.specs.declared.code.Code.TheVariants.{NoStage, NotHeld, Nothing, WrongKind}
use Rattle.cf_c_handles.specs.declared.handle.object.Object.{Object}
use Rattle.cf_c_handles.specs.declared.handle.object.Object.TheVariants.{Graph}
use Rattle.cf_c_handles.specs.declared.values.task.CfTask.{CfTask}

-- ---- which tasks may be finished

-- why a caller may not finish what it holds: the stage isn't there, or isn't claimed by this caller
abbrev pub fault_of : ℕ → State → Option Held → Option Code
fault_of who s None = None
fault_of who s (Some h) =
    if nat_lt h.stage (length s.plan.stages) then (if option_map_or (λ w. w == who) (claim_at s h.stage) false then None else Some NotHeld) else Some NoStage

abbrev pub MayFinish : ℕ → State → CfTask → Type 0
MayFinish who s t = fault_of who s (held_by t) ≡ None

-- the first task that may not be finished
pub record IsFirstFault (who : ℕ) (s : State) (tasks : List CfTask) (code : Code) : Type 0 where
  pub place : ℕ
  pub task : CfTask
  pub there : slice_get tasks place ≡ Some task
  pub why : fault_of who s (held_by task) ≡ Some code
  pub before : All (MayFinish who s) (take place tasks)

-- all tasks may be finished, or it is told why the first of the others may not
abbrev pub TellsFirstFault : ℕ → State → List CfTask → Option Code → Type 0
TellsFirstFault who s tasks told = MatchOption told (All (MayFinish who s) tasks) (IsFirstFault who s tasks)

-- ---- what is finished

-- the stage that is held, if one is, is one of so many
abbrev pub IsThere : ℕ → Option Held → Type 0
IsThere n None = Unit {0}
IsThere n (Some h) = h.stage < n

-- how the finish went of what is held, if anything is, and the state that it leaves
abbrev pub finish_told : ℕ → State → Option Held → ℕ
finish_told who s None = 0
finish_told who s (Some h) = finish_number ((finishing s who h.stage h.answer).0)

abbrev pub finish_left : ℕ → State → Option Held → State
finish_left who s None = s
finish_left who s (Some h) = (finishing s who h.stage h.answer).1

-- the task then
abbrev pub finished_task : ℕ → State → CfTask → CfTask
finished_task who s t = record t { finished = finish_told who s (held_by t) }

-- the state once what these tasks hold is finished, one after another
abbrev pub finished_all : ℕ → State → List CfTask → State
finished_all who s [] = s
finished_all who s (t ∷ ts) = finished_all who (finish_left who s (held_by t)) ts

-- each task tells how its finish went, behind those before it
pub record AreFinished (who : ℕ) (s : State) (old new : List CfTask) : Type 0 where
  pub all : length new ≡ length old
  pub each : (k : ℕ) → slice_get new k ≡ option_map (λ (t : CfTask). finished_task who (finished_all who s (take k old)) t) (slice_get old k)

-- ---- what is claimed

-- the state once the lowest ready stage is claimed, if one is ready
abbrev pub claim_left : ℕ → State → Option ℕ → State
claim_left who s None = s
claim_left who s (Some i) = (claiming s who i).1

-- the same so many times
abbrev pub claimed_times : ℕ → State → ℕ → State
claimed_times who s zero = s
claimed_times who s (suc k) = claim_left who (claimed_times who s k) (lowest_ready_of (claimed_times who s k))

-- the task that holds a stage whose claim was granted
abbrev pub granted_task : ℕ → State → CfTask → Claimed → CfTask
granted_task i s t (Granted args) = holding t i (function_at s.plan.stages i) args
granted_task i s t reply = record t { held = 0 }

-- what a task holds once the lowest ready stage was claimed for it, or nothing
abbrev pub claimed_task : ℕ → State → CfTask → Option ℕ → CfTask
claimed_task who s t None = record t { held = 0 }
claimed_task who s t (Some i) = granted_task i s t ((claiming s who i).0)

-- each task holds the stage that is the lowest ready one behind the claims for those before it
pub record AreClaimed (who : ℕ) (s : State) (old new : List CfTask) : Type 0 where
  pub all : length new ≡ length old
  pub each : (k : ℕ) → slice_get new k ≡ option_map (λ (t : CfTask). claimed_task who (claimed_times who s k) t (lowest_ready_of (claimed_times who s k))) (slice_get old k)

-- ---- a round

-- whether a task holds anything then, which is so if the first does
abbrev pub round_told : Option CfTask → Result (Unit {0}) Code
round_told None = Err Nothing
round_told (Some t) = if t.held == 0 then Err Nothing else Ok tt

pub record IsRound (who : ℕ) (g : Graph') (had : List CfTask) (r : Result (Unit {0}) Code) (has : List CfTask) (new : Object) : Type 0 where
  pub may : All (MayFinish who g.state) had
  pub between : List CfTask
  pub finished : AreFinished who g.state had between
  pub claimed : AreClaimed who (finished_all who g.state had) between has
  pub now : Graph'
  pub is : new ≡ Graph now
  pub state : now.state ≡ claimed_times who (finished_all who g.state had) (length had)
  pub told : r ≡ round_told (slice_get has 0)

-- a task may not be finished: nothing is changed
pub record IsNoRound (who : ℕ) (g : Graph') (had : List CfTask) (r : Result (Unit {0}) Code) (has : List CfTask) (new : Object) : Type 0 where
  pub code : Code
  pub told : r ≡ Err code
  pub why : IsFirstFault who g.state had code
  pub is : new ≡ Graph g
  pub tasks : has ≡ had

abbrev pub Rounds : ℕ → Object → List CfTask → Result (Unit {0}) Code → Object → List CfTask → Type 0
Rounds who (Graph g) had r new has = IsRound who g had r has new ⊎ IsNoRound who g had r has new
Rounds who held had r new has = (r ≡ Err WrongKind) × (new ≡ held) × (has ≡ had)
