-- What the caller of a graph is given to do, a stage at a time.
use Rattle.std.specs.Prelude.{◌≡◌, ℕ, ◌<◌, ◌≤◌, ◌==◌, Option, Some, None, Result, Ok, Err, length, if◌then◌else◌}
use Rattle.cf_forms.specs.declared.forms.Args.{Args}
use Rattle.cf_forms.specs.Plans.{function_at}
use Rattle.cf_model.specs.declared.replies.Claimed.TheVariants.{Granted}
use Rattle.cf_model.specs.declared.replies.Finished.{Finished}
use Rattle.cf_model.specs.declared.replies.Finished.TheVariants.{NotYours}
use Rattle.cf_ledger.specs.declared.step.Held.{Held}
use Rattle.cf_model.specs.Events.{claiming, finishing}
use Rattle.cf_model.specs.Graphs.{Graph as Graph', NoneLeftFor, RestsUpTo}
use Rattle.cf_model.specs.States.{State, lowest_ready_of}
use Rattle.cf_c_handles.specs.Answers.{Done}
use Rattle.cf_c_handles.specs.Codes.{number_of}
use Rattle.cf_c_handles.specs.Replies.{finish_number}
use Rattle.cf_c_handles.specs.Values.{answer_of, as_args}
use Rattle.cf_c_handles.specs.declared.code.Code.{Code}
use Rattle.cf_c_handles.specs.declared.code.Code.TheVariants.{Empty, WrongKind, NoStage, NotHeld, Nothing}
use Rattle.cf_c_handles.specs.declared.handle.object.Object.{Object}
use Rattle.cf_c_handles.specs.declared.handle.object.Object.TheVariants.{Graph}
use Rattle.cf_c_handles.specs.declared.values.task.CfTask.{CfTask}

-- the stage that a task holds, if it holds one, with what its function answered
abbrev pub held_by : CfTask → Option Held
held_by t = if t.held == 0 then None else Some (record { stage = t.stage; answer = answer_of t.answer })

-- what a finish is answered, or that the caller hasn't claimed the stage
abbrev pub finished_as : Finished → Result ℕ Code
finished_as NotYours = Err NotHeld
finished_as finished = Ok (finish_number finished)

-- the number of a function, of which a ready stage has one
abbrev pub number_or_none : Option ℕ → ℕ
number_or_none None = 0
number_or_none (Some number) = number

-- the task that holds a stage, with its function's number and arguments
abbrev pub holding : CfTask → ℕ → Option ℕ → Args → CfTask
holding t stage function args = record t { held = 1; stage = stage; function = number_or_none function; args = as_args args }

-- The graph finishes a stage for a caller, and is at the sequential graph's state then. It takes no turn that it doesn't need.
pub record IsFinished (who : ℕ) (h : Held) (g : Graph') (r : Result ℕ Code) (now : Graph') : Type 0 where
  pub there : h.stage < length g.state.plan.stages
  pub reply : Finished
  pub replied : (reply, now.state) ≡ finishing g.state who h.stage h.answer
  pub rests : RestsUpTo h.stage g now
  pub told : r ≡ finished_as reply

-- what is held is finished, if anything is, and if it is there
abbrev pub Finishes : ℕ → Option Held → Graph' → Result ℕ Code → Graph' → Type 0
Finishes who None g r now = (r ≡ Ok 0) × (now ≡ g)
Finishes who (Some h) g (Err NoStage) now = (length g.state.plan.stages ≤ h.stage) × (now ≡ g)
Finishes who (Some h) g r now = IsFinished who h g r now

-- a stage is claimed, and the task holds it
pub record IsTaken (who i : ℕ) (s : State) (had has : CfTask) (now : Graph') : Type 0 where
  pub args : Args
  pub granted : (Granted args, now.state) ≡ claiming s who i
  pub is : has ≡ holding had i (function_at s.plan.stages i) args

-- the stage that is ready is claimed, and where none is the task holds nothing
abbrev pub Claims : ℕ → Option ℕ → State → CfTask → Result (Unit {0}) Code → CfTask → Graph' → Type 0
Claims who None s had r has now = (r ≡ Err Nothing) × (has ≡ record had { held = 0 }) × (now.state ≡ s)
Claims who (Some i) s had r has now = (r ≡ Ok tt) × IsTaken who i s had has now

-- the lowest ready stage is taken, without a turn that isn't needed
pub record GraphTakes (who : ℕ) (g : Graph') (had : CfTask) (r : Result (Unit {0}) Code) (has : CfTask) (now : Graph') : Type 0 where
  pub claims : Claims who (lowest_ready_of g.state) g.state had r has now
  pub rests : NoneLeftFor (lowest_ready_of g.state) g.left → now.turns ≡ g.turns

-- what the task holds is finished, the task tells how, and then the lowest ready stage is taken
pub record IsStep (who : ℕ) (g : Graph') (had : CfTask) (r : Result (Unit {0}) Code) (has : CfTask) (new : Object) : Type 0 where
  pub finished : ℕ
  pub between : Graph'
  pub now : Graph'
  pub is : new ≡ Graph now
  pub finishes : Finishes who (held_by had) g (Ok finished) between
  pub takes : GraphTakes who between (record had { finished = finished }) r has now

-- what the task holds can't be finished: nothing is changed
pub record IsNoStep (who : ℕ) (g : Graph') (had : CfTask) (why : Code) (has : CfTask) (new : Object) : Type 0 where
  pub now : Graph'
  pub is : new ≡ Graph now
  pub finishes : Finishes who (held_by had) g (Err why) now
  pub state : now.state ≡ g.state
  pub task : has ≡ had

-- one step of a caller of a graph
abbrev pub Steps : ℕ → CfTask → CfTask → Object → Result (Unit {0}) Code → Object → Type 0
Steps who had has (Graph g) (Err NoStage) new = IsNoStep who g had NoStage has new
Steps who had has (Graph g) (Err NotHeld) new = IsNoStep who g had NotHeld has new
Steps who had has (Graph g) r new = IsStep who g had r has new
Steps who had has held r new = (r ≡ Err WrongKind) × (new ≡ held) × (has ≡ had)

-- through a handle
abbrev pub Nexts : (CfTask → CfTask → Object → Result (Unit {0}) Code → Object → Type 0) → Option Object → Option Object → ℕ → CfTask → CfTask → Type 0
Nexts Asks None new code had has = (code ≡ number_of Empty) × (new ≡ None) × (has ≡ had)
Nexts Asks (Some held) new code had has = Done (Asks had has) held new code
