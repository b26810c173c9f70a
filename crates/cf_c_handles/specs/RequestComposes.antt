-- Composes of a request behind a handle, with their relays.
use Rattle.std.specs.Prelude.{◌≡◌, ℕ, ◌==◌, Option, Some, None, Result, Ok, Err, List, if◌then◌else◌}
use Rattle.cf_ledger.specs.declared.step.Finish.{Finish}
use Rattle.cf_ledger.specs.declared.step.Held.{Held}
use Rattle.cf_request.specs.Composing.{Composes, Links, IsNoCompose, IsNoLink}
use Rattle.cf_request.specs.Machines.{Machine}
use Rattle.cf_request.specs.declared.composing.Composed.{Composed}
use Rattle.cf_request.specs.declared.composing.Composing.{Composing}
use Rattle.cf_request.specs.declared.composing.Composing.TheVariants.{Compose, ExceptionallyCompose}
use Rattle.cf_c_handles.specs.LedgerSteps.{late_number, step_code, task_with}
use Rattle.cf_c_handles.specs.Ledgers.{word_code}
use Rattle.cf_c_handles.specs.RequestCalls.{IfLane, IsDueAs, StaysButFinds}
use Rattle.cf_c_handles.specs.Tasks.{held_by}
use Rattle.cf_c_handles.specs.Todos.{TellsInto}
use Rattle.cf_c_handles.specs.declared.code.Code.{Code}
use Rattle.cf_c_handles.specs.declared.code.Code.TheVariants.{NoSuchNumber, NotHeld, WrongKind}
use Rattle.cf_c_handles.specs.declared.handle.object.Object.{Object}
use Rattle.cf_c_handles.specs.declared.handle.object.Object.TheVariants.{Request}
use Rattle.cf_c_handles.specs.declared.values.request.CfRequestComposing.{CfRequestComposing}
use Rattle.cf_c_handles.specs.declared.values.request.CfRequestLinking.{CfRequestLinking}
use Rattle.cf_c_handles.specs.declared.values.request.CfTodo.{CfTodo}
use Rattle.cf_c_handles.specs.declared.values.request.CfTold.{CfTold}
use Rattle.cf_c_handles.specs.declared.values.task.CfTask.{CfTask}

-- ---- a compose with its relay

-- the form of a number, if it is a compose's
abbrev pub composing_of : ℕ → Option Composing
composing_of number =
    if number == 12 then Some Compose
    else (if number == 18 then Some ExceptionallyCompose
    else None)

-- both are attached, and C has their numbers and what is told
pub record HasComposed (how : Composing) (old : Machine) (new : Object) (had has : CfRequestComposing × List CfTold × CfTodo) : Type 0 where
  pub composed : Composed
  pub between : Machine
  pub now : Machine
  pub composes : Composes had.0.who how had.0.source had.0.function had.0.lane old composed between
  pub tells : TellsInto between (had.1, had.2) (has.1, has.2) now
  pub rest : has.0 ≡ record had.0 { relay = composed.relay; stage = composed.stage }
  pub is : new ≡ Request now

-- or nothing is, for a fault that is due
abbrev pub ComposesOrNot : Composing → Machine → CfRequestComposing × List CfTold × CfTodo → Result (Unit {0}) Code → Object → CfRequestComposing × List CfTold × CfTodo → Type 0
ComposesOrNot how m had (Ok done) new has = HasComposed how m new had has
ComposesOrNot how m had (Err code) new has = IsDueAs word_code (IsNoCompose had.0.who had.0.source had.0.function m) code × (new ≡ Request m) × (has ≡ had)

-- exactly where the form is no compose's, C is told that, and nothing changes
abbrev pub ComposesBy : Option Composing → Machine → CfRequestComposing × List CfTold × CfTodo → Result (Unit {0}) Code → Object → CfRequestComposing × List CfTold × CfTodo → Type 0
ComposesBy None m had r new has = (r ≡ Err NoSuchNumber) × (new ≡ Request m) × (has ≡ had)
ComposesBy (Some how) m had r new has = ComposesOrNot how m had r new has

abbrev pub ComposesIn : Object → CfRequestComposing × List CfTold × CfTodo → Result (Unit {0}) Code → Object → CfRequestComposing × List CfTold × CfTodo → Type 0
ComposesIn (Request m) had r new has = IfLane had.0.lane m r new (has ≡ had) (ComposesBy (composing_of had.0.form) m had r new has)
ComposesIn held had r new has = (r ≡ Err WrongKind) × (new ≡ held) × (has ≡ had)

-- ---- a compose that is finished with any stage

-- the compose that a task holds, with its relay
abbrev pub composed_of : CfRequestLinking → CfTask → Composed
composed_of step task = record { relay = step.relay; stage = task.stage }

-- it is finished, the task holds nothing, and C has how it went and what is told
pub record HasLinked (step : CfRequestLinking) (old : Machine) (new : Object) (had has : CfTask × List CfTold × CfTodo) : Type 0 where
  pub finish : Finish
  pub between : Machine
  pub now : Machine
  pub links : Links step.who (composed_of step had.0) step.stage old finish between
  pub task : has.0 ≡ task_with (record had.0 { finished = late_number (Some finish) }) None
  pub tells : TellsInto between (had.1, had.2) (has.1, has.2) now
  pub is : new ≡ Request now

-- or nothing is done, for a fault that is due
abbrev pub LinksOrNot : CfRequestLinking → Machine → CfTask × List CfTold × CfTodo → Result (Unit {0}) Code → Object → CfTask × List CfTold × CfTodo → Type 0
LinksOrNot step m had (Ok done) new has = HasLinked step m new had has
LinksOrNot step m had (Err code) new has = IsDueAs step_code (IsNoLink step.who (composed_of step had.0) step.stage m) code × StaysButFinds m new × (has ≡ had)

-- exactly where the task holds nothing, C is told that, and nothing changes
abbrev pub LinksBy : Option Held → CfRequestLinking → Machine → CfTask × List CfTold × CfTodo → Result (Unit {0}) Code → Object → CfTask × List CfTold × CfTodo → Type 0
LinksBy None step m had r new has = (r ≡ Err NotHeld) × (new ≡ Request m) × (has ≡ had)
LinksBy (Some held) step m had r new has = LinksOrNot step m had r new has

abbrev pub LinksIn : CfRequestLinking → Object → CfTask × List CfTold × CfTodo → Result (Unit {0}) Code → Object → CfTask × List CfTold × CfTodo → Type 0
LinksIn step (Request m) had r new has = LinksBy (held_by had.0) step m had r new has
LinksIn step held had r new has = (r ≡ Err WrongKind) × (new ≡ held) × (has ≡ had)
