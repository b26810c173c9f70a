-- Which moves there are in a situation, and where each leads.
use Rattle.std.specs.Prelude.{ℕ, ◌+◌, ◌==◌, Bool, true, false, ◌||◌, Option, Some, None, List, [], ◌∷◌, ◌++◌, is_some, length, nat_lt, nat_le, slice_get, slice_set, if◌then◌else◌}
use Rattle.std.proofs.Common.{zero, suc}
use Rattle.std.specs.Option.{option_map_or}
use Rattle.cf_forms.specs.declared.limits.Limit.{Limit}
use Rattle.cf_forms.specs.declared.forms.Answer.{Answer}
use Rattle.cf_forms.specs.Meanings.{Meanings, stage_answer}
use Rattle.cf_model.specs.declared.events.Event.{Event}
use Rattle.cf_model.specs.declared.events.Event.TheVariants as events
use Rattle.cf_model.specs.declared.events.Reply.{Reply}
use Rattle.cf_model.specs.declared.events.Reply.TheVariants.{Claim as ToldClaim, Attach as ToldAttach}
use Rattle.cf_model.specs.declared.replies.Claimed.{Claimed}
use Rattle.cf_model.specs.declared.replies.Claimed.TheVariants as claimed
use Rattle.cf_model.specs.declared.replies.Attached.TheVariants.{At}
use Rattle.cf_model.specs.declared.stage.Stage.{Stage}
use Rattle.cf_model.specs.declared.stage.Stage.TheVariants.{Ready}
use Rattle.cf_model.specs.declared.calls.Call.{Call}
use Rattle.cf_model.specs.Calls.{event_by}
use Rattle.cf_model.specs.States.{State, outcome_at, stage_at}
use Rattle.cf_model.specs.Events.{answered, claiming, finishing, ticking}
use Rattle.cf_model.specs.Ranges.{fits}
use Rattle.cf_explore.specs.declared.step.Step.{Step}
use Rattle.cf_explore.specs.declared.step.Step.TheVariants as steps
use Rattle.cf_explore.specs.declared.step.Hand.{Hand}
use Rattle.cf_explore.specs.declared.step.Hand.TheVariants as hands
use Rattle.cf_explore.specs.declared.step.Move.{Move}
use Rattle.cf_explore.specs.declared.step.Move.TheVariants as moving
use Rattle.cf_explore.specs.Programs.{Programmed, Situated, hand_at, place_at, step_of}

-- Which moves there are: each caller's next step; of each worker that is idle the claim of each ready stage, and of any other
-- the call or the finish that it owes; and, where the clock is free, the moment of the next unused limit.
abbrev pub step_moves : ℕ → Option Step → List Move
step_moves c None = []
step_moves c (Some step) = moving.Step c ∷ []

abbrev pub caller_moves : Programmed → Situated → ℕ → List Move
caller_moves p s zero = []
caller_moves p s (suc c) = caller_moves p s c ++ step_moves c (step_of p s c)

-- the next step of each caller
abbrev pub callers_moves : Programmed → Situated → List Move
callers_moves p s = caller_moves p s (length p.callers)

abbrev pub claim_moves : ℕ → ℕ → Stage → List Move
claim_moves w i (Ready args) = moving.Claim w i ∷ []
claim_moves w i stage = []

abbrev pub claims_by : State → ℕ → ℕ → List Move
claims_by s w zero = []
claims_by s w (suc i) = claims_by s w i ++ claim_moves w i (stage_at s i)

-- worker w's claims of all stages that are ready
abbrev pub all_claims_by : State → ℕ → List Move
all_claims_by s w = claims_by s w (length s.plan.stages)

abbrev pub moves_by_hand : Situated → ℕ → Hand → List Move
moves_by_hand s w hands.Idle = all_claims_by s.state w
moves_by_hand s w (hands.Granted i args) = moving.Call w ∷ []
moves_by_hand s w (hands.Called i answer) = moving.Finish w ∷ []

abbrev pub worker_moves : Situated → ℕ → List Move
worker_moves s zero = []
worker_moves s (suc w) = worker_moves s w ++ moves_by_hand s w (hand_at s w)

abbrev pub tick_moves : Bool → Option Limit → List Move
tick_moves true (Some limit) = moving.Tick ∷ []
tick_moves free limit = []

abbrev pub clock_moves : Bool → State → List Move
clock_moves free s = tick_moves free (slice_get s.plan.limits s.used)

unfoldable pub own_moves : Programmed → Situated → List Move
own_moves p s = callers_moves p s ++ worker_moves s p.workers

unfoldable pub moves : Programmed → Situated → List Move
moves p s = own_moves p s ++ clock_moves p.free s.state

-- at an end nobody goes on, but perhaps a free clock
abbrev pub is_end : Programmed → Situated → Bool
is_end p s = length (own_moves p s) == 0

-- A call of a caller. A caller that is granted a claim calls the stage's function.
abbrev pub marked : List Bool → Event → Reply → List Bool
marked called (events.Claim who i) (ToldClaim (claimed.Granted args)) = slice_set called i true
marked called (events.Attach who form of function) (ToldAttach (At i)) = called ++ false ∷ []
marked called e reply = called

abbrev pub carried_out : Situated → Event → Reply × State → Situated
carried_out s e answer = record s { state = answer.1; called = marked s.called e answer.0 }

abbrev pub calling : Situated → ℕ → Call → Situated
calling s c call =
    if fits (length s.state.plan.stages) (event_by c call) then carried_out s (event_by c call) (answered s.state (event_by c call)) else s

-- a caller goes on to its next step, or looks once more
abbrev pub onward : Situated → ℕ → Situated
onward s c = record s { places = slice_set s.places c (record { at = (place_at s c).at + 1; looks = 0 }) }

abbrev pub once_more : Situated → ℕ → Situated
once_more s c = record s { places = slice_set s.places c (record { at = (place_at s c).at; looks = (place_at s c).looks + 1 }) }

abbrev pub is_settled : State → ℕ → Bool
is_settled s i = if nat_lt i (length s.plan.stages) then is_some (outcome_at s i) else false

abbrev pub stepped : Situated → ℕ → Step → Situated
stepped s c (steps.Do call) = onward (calling s c call) c
stepped s c (steps.Look ask) = onward s c
stepped s c (steps.Join i n) = if is_settled s.state i || nat_le n ((place_at s c).looks + 1) then onward s c else once_more s c

-- Claims, finishes and looks at a stage that isn't there find it neither ready, nor claimed, nor settled.
abbrev pub is_there : State → ℕ → Bool
is_there s i = nat_lt i (length s.plan.stages)

abbrev pub claim_answer : State → ℕ → ℕ → Claimed × State
claim_answer s who i = if is_there s i then claiming s who i else (claimed.NotReady, s)

abbrev pub finished : State → ℕ → ℕ → Answer → State
finished s who i answer = if is_there s i then (finishing s who i answer).1 else s

-- what a worker has in hand once its claim of stage i is answered
abbrev pub hand_of : ℕ → Claimed → Hand
hand_of i (claimed.Granted args) = hands.Granted i args
hand_of i answer = hands.Idle

-- worker w, who is caller who, claims stage i
abbrev pub claim_by : Situated → ℕ → ℕ → Claimed × State → Situated
claim_by s w i answer = record s { state = answer.1; hands = slice_set s.hands w (hand_of i answer.0) }

-- it calls the function of the stage that it was granted
abbrev pub call_by : Meanings → Situated → ℕ → Hand → Situated
call_by m s w (hands.Granted i args) =
    record s { hands = slice_set s.hands w (hands.Called i (stage_answer m s.state.plan.stages i args)); called = slice_set s.called i true }
call_by m s w hand = s

-- it finishes the stage
abbrev pub finish_by : Situated → ℕ → ℕ → Hand → Situated
finish_by s w who (hands.Called i answer) = record s { state = finished s.state who i answer; hands = slice_set s.hands w hands.Idle }
finish_by s w who hand = s

-- the moment of the next unused limit
abbrev pub next_moment : State → ℕ
next_moment s = option_map_or (λ (limit : Limit). limit.at) (slice_get s.plan.limits s.used) s.moment

abbrev pub ticked : Situated → Situated
ticked s = record s { state = (ticking s.state (next_moment s.state)).1 }

-- Where worker w's claim and its finish lead. The workers' numbers as callers stand behind those of the callers. A worker that isn't
-- there does nothing.
abbrev pub after_claim : Programmed → Situated → ℕ → ℕ → Situated
after_claim p s w i = if nat_lt w p.workers then claim_by s w i (claim_answer s.state (length p.callers + w) i) else s

abbrev pub after_finish : Programmed → Situated → ℕ → Situated
after_finish p s w = if nat_lt w p.workers then finish_by s w (length p.callers + w) (hand_at s w) else s

-- Where a move leads.
unfoldable pub moved : Meanings → Programmed → Situated → Move → Situated
moved m p s (moving.Step c) = option_map_or (stepped s c) (step_of p s c) s
moved m p s (moving.Claim w i) = after_claim p s w i
moved m p s (moving.Call w) = call_by m s w (hand_at s w)
moved m p s (moving.Finish w) = after_finish p s w
moved m p s moving.Tick = ticked s

-- The event that a move is, if it is one: a read, a function's call and a call that the graph doesn't take are none. The clock
-- stands behind callers and workers.
abbrev pub call_event : Call → ℕ → ℕ → Option Event
call_event call n c = if fits n (event_by c call) then Some (event_by c call) else None

abbrev pub step_event : Option Step → ℕ → ℕ → Option Event
step_event (Some (steps.Do call)) n c = call_event call n c
step_event step n c = None

abbrev pub claim_event : Programmed → ℕ → ℕ → Option Event
claim_event p w i = if nat_lt w p.workers then Some (events.Claim (length p.callers + w) i) else None

abbrev pub finish_by_hand : Hand → ℕ → Option Event
finish_by_hand (hands.Called i answer) who = Some (events.Finish who i answer)
finish_by_hand hand who = None

abbrev pub finish_event : Programmed → ℕ → Hand → Option Event
finish_event p w hand = if nat_lt w p.workers then finish_by_hand hand (length p.callers + w) else None

abbrev pub event_of : Programmed → Situated → Move → Option Event
event_of p s (moving.Step c) = step_event (step_of p s c) (length s.state.plan.stages) c
event_of p s (moving.Claim w i) = claim_event p w i
event_of p s (moving.Call w) = None
event_of p s (moving.Finish w) = finish_event p w (hand_at s w)
event_of p s moving.Tick = Some (events.Tick (length p.callers + p.workers) (next_moment s.state))
