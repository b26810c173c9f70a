-- How a graph starts again with stages that are given, and the plan that it was opened of.
use Rattle.std.specs.Prelude.{◌≡◌, ℕ, ◌<◌, Result, Ok, Err, List, All, length, map}
use Rattle.cf_forms.specs.Plans.{opening_of, reopened}
use Rattle.cf_model.specs.declared.events.Event.{Event}
use Rattle.cf_model.specs.declared.events.Event.TheVariants.{Complete as Completes}
use Rattle.cf_model.specs.Events.{state_after}
use Rattle.cf_model.specs.Graphs.{Graph as Graph'}
use Rattle.cf_model.specs.States.{State, start}
use Rattle.cf_c_handles.specs.Values.{value_of}
use Rattle.cf_c_handles.specs.declared.code.Code.{Code}
use Rattle.cf_c_handles.specs.declared.code.Code.TheVariants.{NoMemory, NoStage, WrongKind}
use Rattle.cf_c_handles.specs.declared.handle.object.Object.{Object}
use Rattle.cf_c_handles.specs.declared.handle.object.Object.TheVariants.{Graph, Plan}
use Rattle.cf_c_handles.specs.declared.values.CfGiven.{CfGiven}

-- each of these stages is one of so many
abbrev pub AreThere : ℕ → List CfGiven → Type 0
AreThere stages given = All (λ (x : CfGiven). x.stage < stages) given

-- a stage is completed with its value
abbrev pub completing : CfGiven → Event
completing x = Completes 0 x.stage (value_of x.value)

pub record IsGraphAt (s : State) (new : Object) : Type 0 where
  pub now : Graph'
  pub is : new ≡ Graph now
  pub state : now.state ≡ s

-- a graph starts again, and these stages are completed one after another, if each of them is a stage of the plan
abbrev pub RestartsWith : List CfGiven → Object → Result (Unit {0}) Code → Object → Type 0
RestartsWith given (Graph g) (Ok done) new =
    AreThere (length (opening_of g.state.plan).stages) given × IsGraphAt (state_after (start (reopened g.state.plan)) (map completing given)) new
RestartsWith given (Graph g) (Err fault) new = (fault ≡ NoStage) × (¬ AreThere (length (opening_of g.state.plan).stages) given) × (new ≡ Graph g)
RestartsWith given held r new = (r ≡ Err WrongKind) × (new ≡ held)

-- the plan as the graph was opened
abbrev pub PlanOf : Object → Result Object Code → Type 0
PlanOf (Graph g) (Ok made) = made ≡ Plan (opening_of g.state.plan)
PlanOf (Graph g) (Err fault) = fault ≡ NoMemory
PlanOf held r = r ≡ Err WrongKind
