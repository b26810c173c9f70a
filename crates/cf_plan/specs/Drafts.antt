-- A plan that is being built, and the room that there is for it.
use Rattle.std.specs.Prelude.{ℕ, ◌+◌, ◌<◌, ◌≤◌, IfNone, List, Option, [], length}
use Rattle.std.specs.declared.vec.Vec.{Vec}
use Rattle.std.specs.Vec.{vec_capacity}
use Rattle.cf_forms.specs.declared.forms.Form.{Form}
use Rattle.cf_forms.specs.declared.limits.Limit.{Limit}
use Rattle.cf_forms.specs.declared.limits.LimitKind.{LimitKind}
use Rattle.cf_forms.specs.Plans.{Planned, PlannedStage, edges_of, plan_of}
use Rattle.cf_plan.specs.declared.faults.PlanFault.{PlanFault}
use Rattle.cf_plan.specs.Faults.{stage_fault}

-- for how many stages, edges and limits there is memory, those that are there included
pub record Room : Type 0 where
  pub stages : ℕ
  pub edges : ℕ
  pub limits : ℕ

-- the plan of the calls that were accepted, and its room
pub record Draft : Type 0 where
  pub plan : Planned
  pub room : Room

-- no stage, no limit, and no room
abbrev pub no_draft : Draft
no_draft = record { plan = plan_of [] []; room = record { stages = 0; edges = 0; limits = 0 } }

-- there is room for one more stage, with so many sources
pub record HasRoom (draft : Draft) (sources : ℕ) : Type 0 where
  pub stage : length draft.plan.stages < draft.room.stages
  pub edges : edges_of draft.plan.stages + sources ≤ draft.room.edges

-- there is room for one more limit
abbrev pub HasLimitRoom : Draft → Type 0
HasLimitRoom draft = length draft.plan.limits < draft.room.limits

-- a list takes one more element, or so many more, without more memory
abbrev pub HasPlace : {X Z : Type 0} → Vec X Z → Type 0
HasPlace v = length v.items < vec_capacity v

abbrev pub HasPlaces : {X Z : Type 0} → Vec X Z → ℕ → Type 0
HasPlaces v more = length v.items + more ≤ vec_capacity v

-- the stage, or the limit, that a call adds
abbrev pub stage_with : Form → List ℕ → Option ℕ → PlannedStage
stage_with form sources function = record { form = form; sources = sources; function = function }

abbrev pub limit_with : ℕ → ℕ → LimitKind → Limit
limit_with stage at kind = record { stage = stage; at = at; kind = kind }

-- the first reason why such a stage can't be added to this plan, if there is one
abbrev pub fault_in : Planned → Form → List ℕ → Option ℕ → Option PlanFault
fault_in plan form sources function =
    stage_fault (length plan.stages) (edges_of plan.stages) (stage_with form sources function)

-- P is true, if there is no such reason
abbrev pub IfFits : Planned → Form → List ℕ → Option ℕ → Type 0 → Type 0
IfFits plan form sources function P = IfNone (fault_in plan form sources function) P

-- no room is lost
pub record KeepsRoom (old new : Room) : Type 0 where
  pub stages : old.stages ≤ new.stages
  pub edges : old.edges ≤ new.edges
  pub limits : old.limits ≤ new.limits
