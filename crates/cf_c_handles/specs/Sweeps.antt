-- A graph that is lent to a sweep, which stops at each function.
use Rattle.std.specs.Prelude.{◌≡◌, ◌≢◌, ℕ, ◌==◌, Bool, true, false, Option, Some, None, Result, Ok, Err, length}
use Rattle.cf_core.specs.Keeping.Lending.{StopsAt, Sweep as Sweep', served_by}
use Rattle.cf_core.specs.declared.graph.lending.Stop.{Stop}
use Rattle.cf_ledger.specs.declared.step.Held.{Held}
use Rattle.cf_model.specs.Graphs.{Graph as Graph'}
use Rattle.cf_model.specs.States.{State, lowest_ready_of}
use Rattle.cf_c_handles.specs.Tasks.{held_by, holding}
use Rattle.cf_c_handles.specs.declared.code.Code.{Code}
use Rattle.cf_c_handles.specs.declared.code.Code.TheVariants.{NotHeld, NotOver, Nothing, WrongKind}
use Rattle.cf_c_handles.specs.declared.handle.object.Object.{Object}
use Rattle.cf_c_handles.specs.declared.handle.object.Object.TheVariants.{Graph, Sweep}
use Rattle.cf_c_handles.specs.declared.values.task.CfTask.{CfTask}

-- a sweep of this state, which stands at no stage yet
pub record IsBegun (s : State) (new : Object) : Type 0 where
  pub now : Sweep'
  pub is : new ≡ Sweep now
  pub state : now.state ≡ s
  pub stands : now.stands ≡ None

-- a graph becomes a sweep
abbrev pub BeginsSweep : Object → Result (Unit {0}) Code → Object → Type 0
BeginsSweep (Graph g) r new = (r ≡ Ok tt) × IsBegun g.state new
BeginsSweep held r new = (r ≡ Err WrongKind) × (new ≡ held)

-- whether what is held is the stage at which a sweep stands, or there is neither
abbrev pub is_held : Option ℕ → Option Held → Bool
is_held None None = true
is_held (Some i) (Some h) = i == h.stage
is_held stands held = false

-- the state once what is held, if anything is, is claimed and finished by a caller
abbrev pub landed_by : ℕ → State → Option Held → State
landed_by who s None = s
landed_by who s (Some h) = served_by who s h.stage h.answer

-- the sweep stops at the lowest ready stage, and the task holds that
pub record IsStop (had has : CfTask) (now : Sweep') : Type 0 where
  pub stop : Stop
  pub lowest : StopsAt now.state stop
  pub stands : now.stands ≡ Some stop.stage
  pub task : has ≡ holding (record had { finished = 0 }) stop.stage stop.function stop.args

-- no stage is ready: all are behind the sweep, and the task holds nothing
pub record IsOver (had has : CfTask) (now : Sweep') : Type 0 where
  pub none : lowest_ready_of now.state ≡ None
  pub stands : now.stands ≡ None
  pub over : now.behind ≡ length now.state.plan.stages
  pub task : has ≡ record had { held = 0; finished = 0 }

abbrev pub Stops : CfTask → Result (Unit {0}) Code → CfTask → Sweep' → Type 0
Stops had (Ok done) has now = IsStop had has now
Stops had (Err why) has now = (why ≡ Nothing) × IsOver had has now

-- what the task holds lands, whoever the caller is that claims and finishes it, and then the sweep goes on
pub record IsSwept (g : Sweep') (had : CfTask) (r : Result (Unit {0}) Code) (has : CfTask) (new : Object) : Type 0 where
  pub held : is_held g.stands (held_by had) ≡ true
  pub now : Sweep'
  pub is : new ≡ Sweep now
  pub landed : (who : ℕ) → now.state ≡ landed_by who g.state (held_by had)
  pub stops : Stops had r has now

-- one step of a sweep
abbrev pub Sweeps : CfTask → CfTask → Object → Result (Unit {0}) Code → Object → Type 0
Sweeps had has (Sweep g) (Err NotHeld) new = (is_held g.stands (held_by had) ≡ false) × (new ≡ Sweep g) × (has ≡ had)
Sweeps had has (Sweep g) r new = IsSwept g had r has new
Sweeps had has held r new = (r ≡ Err WrongKind) × (new ≡ held) × (has ≡ had)

-- a graph at this state, in which no stage is ready
pub record IsGivenBack (s : State) (new : Object) : Type 0 where
  pub now : Graph'
  pub is : new ≡ Graph now
  pub state : now.state ≡ s
  pub none : lowest_ready_of s ≡ None

-- a sweep that has all stages behind it becomes its graph
abbrev pub EndsSweep : Object → Result (Unit {0}) Code → Object → Type 0
EndsSweep (Sweep g) (Ok done) new = (g.behind ≡ length g.state.plan.stages) × IsGivenBack g.state new
EndsSweep (Sweep g) (Err fault) new = (fault ≡ NotOver) × (g.behind ≢ length g.state.plan.stages) × (new ≡ Sweep g)
EndsSweep held r new = (r ≡ Err WrongKind) × (new ≡ held)
