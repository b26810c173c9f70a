-- Events, and what each is answered and leaves.
use Rattle.std.specs.Prelude.{ℕ, ◌+◌, ◌==◌, Bool, true, false, Option, Some, None, List, [], ◌∷◌, drop, take, take_while, length, nat_lt, nat_le, slice_get, slice_set, if◌then◌else◌, option_and_then}
use Rattle.std.proofs.Common.{zero, suc}
use Rattle.std.specs.Option.{option_map_or}
use Rattle.cf_outcome.specs.declared.outcome.Cause.{Cause}
use Rattle.cf_outcome.specs.declared.outcome.Cause.TheVariants.{Thrown, Cancelled, TimedOut, BadAnswer}
use Rattle.cf_outcome.specs.declared.outcome.Outcome.{Outcome}
use Rattle.cf_outcome.specs.declared.outcome.Outcome.TheVariants.{Value as Gives, Fault}
use Rattle.cf_outcome.specs.Outcomes.{wrap, is_cancelled, now_of}
use Rattle.cf_forms.specs.declared.forms.Answer.{Answer}
use Rattle.cf_forms.specs.declared.forms.Landing.{Landing}
use Rattle.cf_forms.specs.declared.forms.Landing.TheVariants.{Settles as Lands, Links}
use Rattle.cf_forms.specs.declared.limits.Limit.{Limit}
use Rattle.cf_forms.specs.declared.limits.LimitKind.{LimitKind}
use Rattle.cf_forms.specs.declared.limits.LimitKind.TheVariants.{Timeout, Give as GiveValue}
use Rattle.cf_forms.specs.Forms.{landing}
use Rattle.cf_forms.specs.Plans.{Planned, PlannedStage, attached_stage, form_at, sources_at}
use Rattle.cf_model.specs.declared.stage.Stage.{Stage}
use Rattle.cf_model.specs.declared.stage.Stage.TheVariants.{Pending, Ready, Claimed as IsClaimed, Linked, Settled}
use Rattle.cf_model.specs.declared.replies.Claimed.{Claimed}
use Rattle.cf_model.specs.declared.replies.Claimed.TheVariants.{Granted, Settled as IsSettled, Taken, NotReady}
use Rattle.cf_model.specs.declared.replies.Finished.{Finished}
use Rattle.cf_model.specs.declared.replies.Finished.TheVariants.{Won, Late, NotYours}
use Rattle.cf_model.specs.declared.replies.Ticked.{Ticked}
use Rattle.cf_model.specs.declared.replies.Ticked.TheVariants.{Fired, Past}
use Rattle.cf_model.specs.declared.replies.Attached.{Attached}
use Rattle.cf_model.specs.declared.replies.Attached.TheVariants.{At, StagesFull}
use Rattle.cf_model.specs.declared.asks.Ask.{Ask}
use Rattle.cf_model.specs.declared.asks.Ask.TheVariants.{Now as AsksNow, Outcome as AsksOutcome}
use Rattle.cf_model.specs.declared.asks.Told.{Told}
use Rattle.cf_model.specs.declared.asks.Told.TheVariants.{Now as ToldNow, Outcome as ToldOutcome}
use Rattle.cf_model.specs.declared.events.Event.{Event}
use Rattle.cf_model.specs.declared.events.Event.TheVariants.{Complete as Completes, Fail as Fails, FailAs as FailsAs, Cancel as Cancels, Claim as Claims, Finish as Finishes, Tick as Ticks, Attach as Attaches}
use Rattle.cf_model.specs.declared.events.Failure.{Failure}
use Rattle.cf_model.specs.declared.events.Failure.TheVariants.{TimedOut as AsTimedOut, BadAnswer as AsBadAnswer}
use Rattle.cf_model.specs.declared.events.Reply.{Reply}
use Rattle.cf_model.specs.declared.events.Reply.TheVariants.{Flag as ToldFlag, Claim as ToldClaim, Finish as ToldFinish, Tick as ToldTick, Attach as ToldAttach}
use Rattle.cf_model.specs.States.{State, after, appended, flowed, start, stage_at, outcome_at, claim_at}

-- a stage is settled with o, unless it is settled already
abbrev pub settled_by : Option Outcome → State → ℕ → Outcome → Bool × State
settled_by (Some old) s i o = (false, s)
settled_by None s i o = (true, after s i o)

abbrev pub settling : State → ℕ → Outcome → Bool × State
settling s i o = settled_by (outcome_at s i) s i o

-- the cause of a stage that a caller fails so
abbrev pub cause_of : Failure → Cause
cause_of (AsTimedOut code) = TimedOut code
cause_of (AsBadAnswer code) = BadAnswer code

-- a stage is cancelled, unless it is settled already
abbrev pub cancelled_by : Option Outcome → State → ℕ → Bool × State
cancelled_by (Some old) s i = (is_cancelled old, s)
cancelled_by None s i = (true, after s i (Fault Cancelled false))

abbrev pub cancelling : State → ℕ → Bool × State
cancelling s i = cancelled_by (outcome_at s i) s i

-- a ready stage is claimed
abbrev pub claimed_by : Stage → State → ℕ → ℕ → Claimed × State
claimed_by (Ready args) s who i =
    (Granted args, record s { stages = slice_set s.stages i IsClaimed; claims = slice_set s.claims i (Some who) })
claimed_by (Settled o) s who i = (IsSettled, s)
claimed_by IsClaimed s who i = (Taken, s)
claimed_by (Linked j) s who i = (Taken, s)
claimed_by Pending s who i = (NotReady, s)

abbrev pub claiming : State → ℕ → ℕ → Claimed × State
claiming s who i = claimed_by (stage_at s i) s who i

-- a stage lands by its function's answer
abbrev pub linked_to : Option Outcome → State → ℕ → ℕ → State
linked_to (Some o) s i j = after s i (wrap o)
linked_to None s i j = record s { stages = slice_set s.stages i (Linked j) }

abbrev pub landed : State → ℕ → Landing → State
landed s i (Lands o) = after s i o
landed s i (Links j) = linked_to (outcome_at s j) s i j

-- the outcome of a stage's first source
abbrev pub source_outcome : State → ℕ → Option Outcome
source_outcome s i = option_and_then (outcome_at s) (slice_get (sources_at s.plan.stages i) 0)

-- a stage whose claim was just closed is finished
abbrev pub finished_by : Option Outcome → State → ℕ → Answer → Finished × State
finished_by (Some old) s i answer = (Late, s)
finished_by None s i answer = (Won, landed s i (landing (form_at s.plan.stages i) i (source_outcome s i) answer))

abbrev pub finishing : State → ℕ → ℕ → Answer → Finished × State
finishing s who i answer =
    if option_map_or (λ w. w == who) (claim_at s i) false
    then finished_by (outcome_at s i) (record s { claims = slice_set s.claims i None }) i answer
    else (NotYours, s)

-- what a limit settles its stage with
abbrev pub limit_outcome : LimitKind → Outcome
limit_outcome (Timeout code) = Fault (TimedOut code) false
limit_outcome (GiveValue v) = Gives v

-- the limits, one after another, and how many of them settled their stage
abbrev pub firing : ℕ → State → List Limit → ℕ × State
firing count s [] = (count, s)
firing count s (limit ∷ limits) =
    let done = settling s limit.stage (limit_outcome limit.kind) in
    firing (if done.0 then count + 1 else count) done.1 limits

-- the next so many limits, from the first unused one on
abbrev pub next_limits : ℕ → State → List Limit
next_limits count s = take count (drop s.used s.plan.limits)

-- the unused limits whose moment has come
abbrev pub due_limits : State → ℕ → List Limit
due_limits s now = take_while (λ (limit : Limit). nat_le limit.at now) (drop s.used s.plan.limits)

abbrev pub ticking : State → ℕ → Ticked × State
ticking s now =
    if nat_lt now s.moment then (Past, s)
    else (let fired = firing 0 s (due_limits s now) in
    (Fired fired.0, record fired.1 { moment = now; used = s.used + length (due_limits s now) }))

-- a stage is attached, if there is room for one
abbrev pub attached_by : ℕ → State → PlannedStage → Attached × State
attached_by zero s new = (StagesFull, s)
attached_by (suc room) s new = (At (length s.plan.stages), flowed (appended s new))

abbrev pub attaching : State → PlannedStage → Attached × State
attaching s new = attached_by s.plan.room s new

abbrev pub told_as : {A : Type 0} → (A → Reply) → A × State → Reply × State
told_as tell answer = (tell answer.0, answer.1)

-- what an event is answered, and the state that it leaves
abbrev pub answered : State → Event → Reply × State
answered s (Completes who i v) = told_as ToldFlag (settling s i (Gives v))
answered s (Fails who i code) = told_as ToldFlag (settling s i (Fault (Thrown code) false))
answered s (FailsAs who i failure) = told_as ToldFlag (settling s i (Fault (cause_of failure) false))
answered s (Cancels who i) = told_as ToldFlag (cancelling s i)
answered s (Claims who i) = told_as ToldClaim (claiming s who i)
answered s (Finishes who i answer) = told_as ToldFinish (finishing s who i answer)
answered s (Ticks who now) = told_as ToldTick (ticking s now)
answered s (Attaches who form of function) = told_as ToldAttach (attaching s (attached_stage form of function))

-- the state that these events leave
abbrev pub state_after : State → List Event → State
state_after s [] = s
state_after s (e ∷ events) = state_after ((answered s e).1) events

-- the state that the first p of these events leave
abbrev pub state_at : Planned → List Event → ℕ → State
state_at plan events p = state_after (start plan) (take p events)

-- what a question is told of a state
abbrev pub told : State → Ask → Told
told s (AsksNow i absent) = ToldNow (now_of (outcome_at s i) absent)
told s (AsksOutcome i) = ToldOutcome (outcome_at s i)
