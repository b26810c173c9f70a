-- How plans are built, and graphs of plans opened.
use Rattle.std.specs.Prelude.{◌≡◌, ℕ, ◌≤◌, ◌⊎◌, ◌==◌, true, false, Option, Some, None, Result, Ok, Err, List, [], IfNone, IfSome, IsOk, IsOkUnless, length, if◌then◌else◌}
use Rattle.cf_plan.specs.declared.faults.PlanFault.{PlanFault}
use Rattle.cf_plan.specs.declared.faults.PlanFault.TheVariants as plan
use Rattle.cf_forms.specs.declared.forms.Form.{Form}
use Rattle.cf_forms.specs.declared.limits.LimitKind.{LimitKind}
use Rattle.cf_forms.specs.declared.limits.LimitKind.TheVariants.{Timeout, Give}
use Rattle.cf_plan.specs.Drafts.{Draft, HasRoom, KeepsRoom, no_draft}
use Rattle.cf_forms.specs.Plans.{Planned, PlannedStage, edges_of, has_place, plan_of, with_limit, with_room, with_stage}
use Rattle.cf_plan.specs.Faults.{limit_fault, stage_fault}
use Rattle.cf_model.specs.States.{start}
use Rattle.cf_c_handles.specs.Codes.{number_of, plan_code}
use Rattle.cf_c_handles.specs.Graphs.{IsStarted}
use Rattle.cf_c_handles.specs.Values.{value_of}
use Rattle.cf_c_handles.specs.declared.code.Code.{Code}
use Rattle.cf_c_handles.specs.declared.code.Code.TheVariants.{Empty, Full, NoMemory, NoSuchNumber, Room, WrongKind}
use Rattle.cf_c_handles.specs.declared.handle.object.Object.{Object}
use Rattle.cf_c_handles.specs.declared.handle.object.Object.TheVariants.{Builder, Plan}
use Rattle.cf_c_handles.specs.declared.values.CfValue.{CfValue}

-- what is made is put behind a handle, if the handle is empty; that takes memory, too
abbrev pub Fills : Result Object Code → Option Object → ℕ → Option Object → Type 0
Fills made (Some held) code new = (code ≡ number_of Full) × (new ≡ Some held)
Fills (Ok held) None code new = ((code ≡ 0) × (new ≡ Some held)) ⊎ ((code ≡ number_of NoMemory) × (new ≡ None))
Fills (Err fault) None code new = (code ≡ number_of fault) × (new ≡ None)

-- an empty builder, with room for so many stages and edges
abbrev pub IsEmptyBuilder : ℕ → ℕ → Option Object → Type 0
IsEmptyBuilder stages edges (Some (Builder b)) = (b.plan ≡ plan_of [] []) × (stages ≤ b.room.stages) × (edges ≤ b.room.edges)
IsEmptyBuilder stages edges held = ⊥

-- an empty handle has an empty builder with the room then, where there is memory
abbrev pub IsNewBuilder : ℕ → ℕ → Option Object → ℕ → Option Object → Type 0
IsNewBuilder stages edges (Some held) code new = (code ≡ number_of Full) × (new ≡ Some held)
IsNewBuilder stages edges None code new = ((code ≡ 0) × IsEmptyBuilder stages edges new) ⊎ ((code ≡ number_of NoMemory) × (new ≡ None))

-- a builder of this plan, which has lost no room
abbrev pub IsBuilderOf : Planned → Draft → Object → Type 0
IsBuilderOf plan old (Builder b) = (b.plan ≡ plan) × KeepsRoom old.room b.room
IsBuilderOf plan old held = ⊥

-- what the builder answers
abbrev pub refused_with : PlanFault → Result ℕ PlanFault
refused_with why = Err why

abbrev pub accepted_as : ℕ → Result ℕ PlanFault
accepted_as stage = Ok stage

-- the builder refuses a stage for the fault that is due, and where none is, for want of memory, if it has no room
pub record IsNotAdded (b : Draft) (s : PlannedStage) (fault : Code) (new : Object) : Type 0 where
  pub why : PlanFault
  pub code : fault ≡ plan_code why
  pub refused : IfSome (stage_fault (length b.plan.stages) (edges_of b.plan.stages) s) (λ (due : PlanFault). refused_with why ≡ Err due)
  pub otherwise : IfNone (stage_fault (length b.plan.stages) (edges_of b.plan.stages) s) (IsOkUnless (refused_with why) plan.NoMemory)
  pub succeeds : HasRoom b (length s.sources) → IfNone (stage_fault (length b.plan.stages) (edges_of b.plan.stages) s) (IsOk (refused_with why))
  pub stays : IsBuilderOf b.plan b new

-- the builder adds a stage, which no fault is due for
pub record IsAdded (b : Draft) (s : PlannedStage) (stage : ℕ) (new : Object) : Type 0 where
  pub number : stage ≡ length b.plan.stages
  pub added : IsBuilderOf (with_stage b.plan s) b new
  pub refused : IfSome (stage_fault (length b.plan.stages) (edges_of b.plan.stages) s) (λ (due : PlanFault). accepted_as stage ≡ Err due)

abbrev pub planned : Form → List ℕ → Option ℕ → PlannedStage
planned form of function = record { form = form; sources = of; function = function }

abbrev pub AddsStage : Option Form → List ℕ → Option ℕ → Object → Result ℕ Code → Object → Type 0
AddsStage None of function (Builder b) r new = (r ≡ Err NoSuchNumber) × (new ≡ Builder b)
AddsStage (Some form) of function (Builder b) (Ok stage) new = IsAdded b (planned form of function) stage new
AddsStage (Some form) of function (Builder b) (Err fault) new = IsNotAdded b (planned form of function) fault new
AddsStage form of function held r new = (r ≡ Err WrongKind) × (new ≡ held)

-- a time-out with this code where the kind is 0, and else a value to give
abbrev pub kind_of : ℕ → ℕ → CfValue → LimitKind
kind_of kind code value = if kind == 0 then Timeout code else Give (value_of value)

abbrev pub IsLimited : Draft → ℕ → ℕ → LimitKind → Option PlanFault → Result (Unit {0}) Code → Object → Type 0
IsLimited b stage at kind (Some fault) r new = (r ≡ Err (plan_code fault)) × IsBuilderOf b.plan b new
IsLimited b stage at kind None (Ok done) new = IsBuilderOf (with_limit b.plan (record { stage = stage; at = at; kind = kind })) b new
IsLimited b stage at kind None (Err fault) new = (fault ≡ NoMemory) × (b.room.limits ≤ length b.plan.limits) × IsBuilderOf b.plan b new

abbrev pub AddsLimit : ℕ → ℕ → LimitKind → Object → Result (Unit {0}) Code → Object → Type 0
AddsLimit stage at kind (Builder b) r new = IsLimited b stage at kind (limit_fault b.plan stage) r new
AddsLimit stage at kind held r new = (r ≡ Err WrongKind) × (new ≡ held)

-- what is built so far is a plan, or where memory was refused an empty builder
abbrev pub Builds : Object → Result (Unit {0}) Code → Object → Type 0
Builds (Builder b) (Ok done) new = new ≡ Plan b.plan
Builds (Builder b) (Err fault) new = (fault ≡ NoMemory) × (new ≡ Builder no_draft)
Builds held r new = (r ≡ Err WrongKind) × (new ≡ held)

-- the graph of a plan with so much room, at its start
abbrev pub GraphOf : ℕ → Object → Result Object Code → Type 0
GraphOf room (Plan p) (Ok made) = (has_place p.stages room ≡ true) × IsStarted (start (with_room p room)) made
GraphOf room (Plan p) (Err Room) = has_place p.stages room ≡ false
GraphOf room (Plan p) (Err fault) = (fault ≡ NoMemory) × (has_place p.stages room ≡ true)
GraphOf room held r = r ≡ Err WrongKind

-- of a plan, which stays behind its handle, something is made and put behind another handle
pub record IsOpened (Makes : Object → Result Object Code → Type 0) (plan : Object) (kept : Option Object) (code : ℕ) (old new : Option Object) : Type 0 where
  pub made : Result Object Code
  pub makes : Makes plan made
  pub stays : kept ≡ Some plan
  pub fills : Fills made old code new

abbrev pub Opens : (Object → Result Object Code → Type 0) → Option Object → Option Object → ℕ → Option Object → Option Object → Type 0
Opens Makes None kept code old new = (kept ≡ None) × Fills (Err Empty) old code new
Opens Makes (Some plan) kept code old new = IsOpened Makes plan kept code old new
