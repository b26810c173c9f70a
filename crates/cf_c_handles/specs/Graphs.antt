-- What a graph behind a handle is asked.
use Rattle.std.specs.Prelude.{◌≡◌, ℕ, Option, Some, None, Result, Ok, Err, length, nat_lt, if◌then◌else◌}
use Rattle.cf_outcome.specs.declared.outcome.Value.{Value}
use Rattle.cf_outcome.specs.Outcomes.{now_of}
use Rattle.cf_forms.specs.Plans.{function_at, reopened}
use Rattle.cf_model.specs.declared.events.Event.{Event}
use Rattle.cf_model.specs.declared.events.Reply.{Reply}
use Rattle.cf_model.specs.Events.{answered}
use Rattle.cf_model.specs.Graphs.{Graph as Graph', NoneLeftFor, NoneLeftUpTo, Rests}
use Rattle.cf_model.specs.Ranges.{EventFits}
use Rattle.cf_model.specs.States.{State, lowest_ready_of, outcome_at, start}
use Rattle.cf_desk.specs.Faults.{EventNames}
use Rattle.cf_c_handles.specs.Replies.{as_reply}
use Rattle.cf_c_handles.specs.Values.{as_now, as_outcome}
use Rattle.cf_c_handles.specs.declared.code.Code.{Code}
use Rattle.cf_c_handles.specs.declared.code.Code.TheVariants.{WrongKind, NoStage, BadAttach, Nothing}
use Rattle.cf_c_handles.specs.declared.handle.object.Object.{Object}
use Rattle.cf_c_handles.specs.declared.handle.object.Object.TheVariants.{Graph}
use Rattle.cf_c_handles.specs.declared.values.CfReply.{CfReply}
use Rattle.cf_c_handles.specs.declared.values.CfNow.{CfNow}
use Rattle.cf_c_handles.specs.declared.values.CfOutcome.{CfOutcome}

-- why an event isn't done to a graph of so many stages: a stage of it isn't there, or else what it attaches doesn't fit its form
abbrev pub GraphRefuses : ℕ → Event → Code → Type 0
GraphRefuses n e NoStage = ¬ EventNames n e
GraphRefuses n e BadAttach = EventNames n e × (¬ EventFits n e)
GraphRefuses n e code = ⊥

-- the event is done to the graph, which gives the sequential graph's reply and is then at the sequential graph's state, and takes no turn that it doesn't need
pub record IsDone (g : Graph') (e : Event) (told : CfReply) (new : Object) : Type 0 where
  pub fits : EventFits (length g.state.plan.stages) e
  pub reply : Reply
  pub now : Graph'
  pub is : new ≡ Graph now
  pub replied : (reply, now.state) ≡ answered g.state e
  pub rests : Rests e g now
  pub tells : told ≡ as_reply reply

-- a graph is handed an event, or why there is none
abbrev pub GraphAnswers : Result Event Code → Object → Result CfReply Code → Object → Type 0
GraphAnswers (Ok e) (Graph g) (Ok told) new = IsDone g e told new
GraphAnswers (Ok e) (Graph g) (Err fault) new = GraphRefuses (length g.state.plan.stages) e fault × (new ≡ Graph g)
GraphAnswers (Err fault) (Graph g) r new = (r ≡ Err fault) × (new ≡ Graph g)
GraphAnswers e held r new = (r ≡ Err WrongKind) × (new ≡ held)

-- the graph may have taken turns, unless it is at rest, and is at the state at which it was
pub record IsSame (AtRest : Graph' → Type 0) (g : Graph') (new : Object) : Type 0 where
  pub now : Graph'
  pub is : new ≡ Graph now
  pub state : now.state ≡ g.state
  pub rests : AtRest g → now ≡ g

-- a graph is asked what this tells of it, and takes no turn where it is at rest
abbrev pub Asked : {X : Type 0} → (Graph' → Result X Code) → (Graph' → Type 0) → Object → Result X Code → Object → Type 0
Asked tells AtRest (Graph g) r new = (r ≡ tells g) × IsSame AtRest g new
Asked tells AtRest held r new = (r ≡ Err WrongKind) × (new ≡ held)

-- For a question about a stage it is at rest where no turn is left up to there, for that after the lowest ready stage where none is left for this one, and for the others always.
abbrev pub RestsAt : ℕ → Graph' → Type 0
RestsAt stage g = NoneLeftUpTo stage g.left

abbrev pub RestsAtReady : Graph' → Type 0
RestsAtReady g = NoneLeftFor (lowest_ready_of g.state) g.left

abbrev pub RestsAlways : Graph' → Type 0
RestsAlways g = Unit {0}

-- of a stage, if it is there
abbrev pub of_stage : {X : Type 0} → State → ℕ → X → Result X Code
of_stage s stage x = if nat_lt stage (length s.plan.stages) then Ok x else Err NoStage

abbrev pub or_nothing : {X : Type 0} → Option X → Result X Code
or_nothing None = Err Nothing
or_nothing (Some x) = Ok x

abbrev pub outcome_told : ℕ → Graph' → Result CfOutcome Code
outcome_told stage g = of_stage g.state stage (as_outcome (outcome_at g.state stage))

abbrev pub now_told : ℕ → Value → Graph' → Result CfNow Code
now_told stage absent g = of_stage g.state stage (as_now (now_of (outcome_at g.state stage) absent))

abbrev pub ready_told : Graph' → Result ℕ Code
ready_told g = or_nothing (lowest_ready_of g.state)

abbrev pub function_told : ℕ → Graph' → Result ℕ Code
function_told stage g =
    if nat_lt stage (length g.state.plan.stages) then or_nothing (function_at g.state.plan.stages stage) else Err NoStage

abbrev pub stages_told : Graph' → Result ℕ Code
stages_told g = Ok (length g.state.plan.stages)

abbrev pub turns_told : Graph' → Result ℕ Code
turns_told g = Ok g.turns

-- this is a graph at its start, with no turn taken
pub record IsStarted (s : State) (new : Object) : Type 0 where
  pub now : Graph'
  pub is : new ≡ Graph now
  pub state : now.state ≡ s
  pub turns : now.turns ≡ 0

-- a graph starts again
abbrev pub Restarts : Object → Result (Unit {0}) Code → Object → Type 0
Restarts (Graph g) r new = (r ≡ Ok tt) × IsStarted (start (reopened g.state.plan)) new
Restarts held r new = (r ≡ Err WrongKind) × (new ≡ held)
