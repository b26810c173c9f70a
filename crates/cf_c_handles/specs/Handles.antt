-- What a call of C says of the handles that it is given, before it and after it.
use Rattle.std.specs.Prelude.{ℕ, List, Result}
use Rattle.cf_model.specs.declared.events.Event.{Event}
use Rattle.cf_model.specs.Graphs.{Graph as Graph'}
use Rattle.cf_c_handles.specs.Answers.{Does, Tells}
use Rattle.cf_c_handles.specs.Building.{AddsStage, Opens}
use Rattle.cf_c_handles.specs.Desks.{ByCaller}
use Rattle.cf_c_handles.specs.Graphs.{Asked, GraphAnswers}
use Rattle.cf_c_handles.specs.Ledgers.{OpensFrom, Writes}
use Rattle.cf_c_handles.specs.Opening.{OpensDesk}
use Rattle.cf_c_handles.specs.Plans.{form_of, function_of}
use Rattle.cf_c_handles.specs.Tasks.{Nexts}
use Rattle.cf_c_handles.specs.declared.code.Code.{Code}
use Rattle.cf_c_handles.specs.declared.handle.CfHandle.{CfHandle}
use Rattle.cf_c_handles.specs.declared.handle.object.Caller.{Caller as Caller'}
use Rattle.cf_c_handles.specs.declared.handle.object.Object.{Object}
use Rattle.cf_c_handles.specs.declared.values.CfReply.{CfReply}
use Rattle.cf_c_handles.specs.declared.values.task.CfTask.{CfTask}

-- What stands behind a handle is asked, and stays there. C gets a code.
abbrev pub HandleDoes : (Object → Result (Unit {0}) Code → Object → Type 0) → CfHandle → CfHandle → ℕ → Type 0
HandleDoes Asks h now code = Does Asks h.inner.held now.inner.held code

-- C gets a code, and where that is 0 an answer.
abbrev pub HandleTells : {X : Type 0} → (Object → Result X Code → Object → Type 0) → CfHandle → CfHandle → ℕ → X → X → Type 0
HandleTells Asks h now code had has = Tells Asks h.inner.held now.inner.held code had has

-- C gets a code, and what it has is written to.
abbrev pub HandleWrites : {X : Type 0} → (Object → X → Result (Unit {0}) Code → Object → X → Type 0) → CfHandle → CfHandle → ℕ → X → X → Type 0
HandleWrites Asks h now code had has = Writes Asks h.inner.held now.inner.held code had has

-- C gets a code, and the task that it has is done and given the next stage.
abbrev pub HandleNexts : (CfTask → CfTask → Object → Result (Unit {0}) Code → Object → Type 0) → CfHandle → CfHandle → ℕ → CfTask → CfTask → Type 0
HandleNexts Asks h now code had has = Nexts Asks h.inner.held now.inner.held code had has

-- A caller of a desk is asked, and C gets the answer.
abbrev pub CallerTells : {X : Type 0} → (Caller' → Result X Code → Caller' → Type 0) → CfHandle → CfHandle → ℕ → X → X → Type 0
CallerTells Asks h now code had has = HandleTells (ByCaller Asks) h now code had has

-- A graph is handed an event, and C gets the reply.
abbrev pub GraphReplies : Result Event Code → CfHandle → CfHandle → ℕ → CfReply → CfReply → Type 0
GraphReplies e h now code had has = HandleTells (GraphAnswers e) h now code had has

-- A graph is asked what `tells` tells of it, and C gets that.
abbrev pub GraphTells : {X : Type 0} → (Graph' → Result X Code) → (Graph' → Type 0) → CfHandle → CfHandle → ℕ → X → X → Type 0
GraphTells tells AtRest h now code had has = HandleTells (Asked tells AtRest) h now code had has

-- A stage is added, by the numbers that C gives for its form and its function, and C gets its number.
abbrev pub AddsStageAs : ℕ → List ℕ → ℕ → CfHandle → CfHandle → ℕ → ℕ → ℕ → Type 0
AddsStageAs form of function h now code had has = HandleTells (AddsStage (form_of form) of (function_of function)) h now code had has

-- Something is made of what stands behind a handle, and is put behind another, if that is empty.
abbrev pub HandleOpens : (Object → Result Object Code → Type 0) → CfHandle → CfHandle → ℕ → CfHandle → CfHandle → Type 0
HandleOpens Makes plan kept code old new = Opens Makes plan.inner.held kept.inner.held code old.inner.held new.inner.held

-- The same, and C is told a place.
abbrev pub HandleOpensFrom : (Object → ℕ → Result Object Code → ℕ → Type 0) → CfHandle → CfHandle → ℕ → CfHandle → CfHandle → ℕ → ℕ → Type 0
HandleOpensFrom Makes plan kept code old new had has =
    OpensFrom Makes plan.inner.held kept.inner.held code old.inner.held new.inner.held had has

-- A desk is opened of a plan, and its callers are put behind handles, if all of these are empty.
abbrev pub HandleOpensDesk : (Object → List CfHandle → Result (Unit {0}) Code → List CfHandle → Type 0) → CfHandle → CfHandle → ℕ → List CfHandle → List CfHandle → Type 0
HandleOpensDesk Seats plan kept code old new = OpensDesk Seats plan.inner.held kept.inner.held code old new
