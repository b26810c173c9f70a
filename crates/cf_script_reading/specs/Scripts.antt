-- Scripts: a plan, room for stages that are attached to it later, a list of functions, and a list of steps.
use Rattle.std.specs.Prelude.{◌≡◌, ℕ, zero, suc, ◌+◌, ◌<◌, ◌≤◌, List, [], ◌∷◌, length, true, IfSome, All, if◌then◌else◌}
use Rattle.cf_forms.specs.Plans.{Planned, PlannedStage, has_place, with_room}
use Rattle.cf_model.specs.declared.events.Event.TheVariants.{Attach as Attaches}
use Rattle.cf_model.specs.Calls.{is_attach}
use Rattle.cf_model.specs.Ranges.{EventFits, AskFits}
use Rattle.cf_script_reading.specs.declared.func.Func.{Func}
use Rattle.cf_script_reading.specs.declared.script.Step.{Step}
use Rattle.cf_script_reading.specs.declared.script.Step.TheVariants.{Does, Asks, Work, Nudge}

pub record Script : Type 0 where
  -- the plan that its stages and limits make
  pub plan : Planned
  -- for how many stages that its steps attach there is room
  pub room : ℕ
  -- the functions of its stages, and behind them those of its steps, which stages name by their places here
  pub functions : List Func
  -- what is done with the plan, in order
  pub steps : List Step

-- the script of these parts
abbrev pub scripted : Planned → ℕ → List Func → List Step → Script
scripted plan room functions steps = record { plan = plan; room = room; functions = functions; steps = steps }

-- the plan with its room, as a graph is opened with it
abbrev pub opening : Script → Planned
opening s = with_room s.plan s.room

-- how many stages there are, and for how many more there is room
pub record Extent : Type 0 where
  pub stages : ℕ
  pub room : ℕ

-- a plan's
abbrev pub extent_of : Planned → Extent
extent_of plan = record { stages = length plan.stages; room = plan.room }

-- once one more is attached, where there is room for it
abbrev pub attached_by : ℕ → ℕ → Extent
attached_by n zero = record { stages = n; room = 0 }
attached_by n (suc room) = record { stages = n + 1; room = room }

abbrev pub with_attached : Extent → Extent
with_attached x = attached_by x.stages x.room

-- and once a step is done
abbrev pub extent_after : Step → Extent → Extent
extent_after (Does e) x = if is_attach e then with_attached x else x
extent_after step x = x

-- each stage that a step names is one of n, and a stage that it attaches fits its form
abbrev pub StepFits : ℕ → Step → Type 0
StepFits n (Does e) = EventFits n e
StepFits n (Asks a) = AskFits n a
StepFits n Work = Unit {0}
StepFits n (Nudge k) = Unit {0}

-- each step fits the stages that there are once those before it are done
abbrev pub StepsFit : Extent → List Step → Type 0
StepsFit x [] = Unit {0}
StepsFit x (s ∷ steps) = StepFits x.stages s × StepsFit (extent_after s x) steps

-- the function of a stage, if it has one, is one of n
abbrev pub FunctionFits : ℕ → PlannedStage → Type 0
FunctionFits n stage = IfSome stage.function (λ f. f < n)

-- the function of a stage that a step attaches, if it has one, is one of n, and one that a word has room for
abbrev pub StepCalls : ℕ → Step → Type 0
StepCalls n (Does (Attaches who form of function)) = IfSome function (λ f. (f < n) × (f ≤ 4095))
StepCalls n step = Unit {0}

-- What is true of every script: stages and functions that are named are there, and a plan with so much room is one that a graph
-- can be opened with.
pub record IsScript (s : Script) : Type 0 where
  pub numbered : All (FunctionFits (length s.functions)) s.plan.stages
  pub called : All (StepCalls (length s.functions)) s.steps
  pub place : has_place s.plan.stages s.room ≡ true
  pub steps_fit : StepsFit (extent_of (opening s)) s.steps
