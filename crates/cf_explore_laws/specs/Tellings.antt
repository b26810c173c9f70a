-- Programs whose callers make the calls that callers were told of, and orders that tell the same.
use Rattle.std.specs.Prelude.{◌≡◌, ℕ, ◌+◌, ◌-◌, ◌<◌, ◌++◌, ◌∷◌, [], ◌&&◌, Bool, true, false, not, Option, Some, None, List, Contains, if◌then◌else◌, length, map, nat_le, slice_get, take}
use Rattle.cf_forms.specs.Meanings.{Meanings, stage_answer}
use Rattle.cf_forms.specs.Plans.{Planned}
use Rattle.cf_model.specs.declared.events.Event.{Event}
use Rattle.cf_model.specs.declared.events.Event.TheVariants as kinds
use Rattle.cf_model.specs.declared.events.Reply.{Reply}
use Rattle.cf_model.specs.declared.events.Reply.TheVariants.{Claim as ToldClaim}
use Rattle.cf_model.specs.declared.replies.Claimed.TheVariants as claimed
use Rattle.cf_model.specs.Calls.{as_call, who_of}
use Rattle.cf_model.specs.States.{State, lowest_ready_of, start}
use Rattle.cf_model.specs.Events.{answered, state_after, state_at, told}
use Rattle.cf_event.specs.declared.record.Record.{Record}
use Rattle.cf_event.specs.declared.record.Record.TheVariants.{Did, Saw}
use Rattle.cf_explore.specs.declared.step.Hand.{Hand}
use Rattle.cf_explore.specs.declared.step.Hand.TheVariants as hands
use Rattle.cf_explore.specs.declared.step.Move.{Move}
use Rattle.cf_explore.specs.declared.step.Move.TheVariants as moving
use Rattle.cf_explore.specs.declared.step.Step.{Step}
use Rattle.cf_explore.specs.declared.step.Step.TheVariants as steps
use Rattle.cf_explore.specs.Programs.{Programmed, Situated, place_at, start_of}
use Rattle.cf_explore.specs.Moves.{event_of, hand_of, is_end, moved}
use Rattle.cf_explore.specs.Orders.{IsOrder, led}

-- the step in which a caller is told what a record says
abbrev pub step_for : Record → Step
step_for (Did place event reply) = steps.Do (as_call event)
step_for (Saw place ask answer) = steps.Look ask

-- a caller of this number was told of just these steps, in this order
abbrev pub AreToldSteps : List (ℕ × List Record) → ℕ → List Step → Type 0
AreToldSteps callers c steps = (records : List Record) × Contains callers (c, records) × (steps ≡ map step_for records)

-- ---- what workers do

-- the next event of a worker may be a claim where it has nothing in hand, and else is the finish of the stage that it was granted,
-- with what the stage's function answers
abbrev pub IsWork : Meanings → State → Hand → Event → Type 0
IsWork m s hands.Idle e = (i : ℕ) × (e ≡ kinds.Claim (who_of e) i)
IsWork m s (hands.Granted i args) e = e ≡ kinds.Finish (who_of e) i (stage_answer m s.plan.stages i args)
IsWork m s (hands.Called i answer) e = ⊥

-- what it has in hand behind it
abbrev pub held_after : Event → Reply → Hand
held_after (kinds.Claim who i) (ToldClaim answer) = hand_of i answer
held_after e reply = hands.Idle

-- records of claims, and of the finish of each that was granted. At last the worker has nothing in hand.
abbrev pub AreWork : Meanings → Planned → List Event → Hand → List Record → Type 0
AreWork m plan history hand [] = hand ≡ hands.Idle
AreWork m plan history hand (Did place event reply ∷ records) =
    IsWork m (state_at plan history (place - 1)) hand event × AreWork m plan history (held_after event reply) records
AreWork m plan history hand (Saw place ask answer ∷ records) = AreWork m plan history hand records

-- a caller of this number has worked until nothing was ready
abbrev pub HasWorked : Meanings → Planned → List Event → List (ℕ × List Record) → ℕ → Type 0
HasWorked m plan history callers c =
    (records : List Record) × Contains callers (c, records) × AreWork m plan history hands.Idle records × (lowest_ready_of (state_after (start plan) history) ≡ None)

-- ---- programs

-- A program of this plan whose callers make just the calls that these callers were told of, each in its own order, and with a worker
-- for each other caller, which has worked. The callers may stand in the list in any order, each under its number, workers last.
pub record IsProgramOf (m : Meanings) (plan : Planned) (history : List Event) (callers : List (ℕ × List Record)) (p : Programmed) : Type 0 where
  pub same_plan : p.plan ≡ plan
  pub all : length p.callers + p.workers ≡ length callers
  pub each : (c : ℕ) (steps : List Step) → slice_get p.callers c ≡ Some steps → AreToldSteps callers c steps
  pub workers : (w : ℕ) → w < p.workers → HasWorked m plan history callers (length p.callers + w)

-- each caller stands in the list at its number's place
abbrev pub AreNumbered : List (ℕ × List Record) → Type 0
AreNumbered callers = (c : ℕ) (k : ℕ × List Record) → slice_get callers c ≡ Some k → k.0 ≡ c

-- the program of these callers alone
abbrev pub steps_for : ℕ × List Record → List Step
steps_for k = map step_for k.1

abbrev pub program_of : Planned → List (ℕ × List Record) → Programmed
program_of plan callers = record { plan = plan; callers = map steps_for callers; workers = 0; free = false }

-- ---- orders

-- the events that these moves are, one after another
abbrev pub and_event : Option Event → List Event → List Event
and_event None later = later
and_event (Some e) later = e ∷ later

abbrev pub events_by : Meanings → Programmed → Situated → List Move → List Event
events_by m p s [] = []
events_by m p s (by ∷ order) = and_event (event_of p s by) (events_by m p (moved m p s by) order)

-- A history but for the claims that workers, who are the callers from n on, made in vain: these change nothing, and are no moves.
abbrev pub grants : Reply → Bool
grants (ToldClaim (claimed.Granted args)) = true
grants reply = false

abbrev pub is_vain : ℕ → Event → Reply → Bool
is_vain n (kinds.Claim who i) reply = nat_le n who && not (grants reply)
is_vain n e reply = false

abbrev pub but_vain : ℕ → State → List Event → List Event
but_vain n s [] = []
but_vain n s (e ∷ events) =
    let r = answered s e in
    if is_vain n e r.0 then but_vain n r.1 events else e ∷ but_vain n r.1 events

-- what a record says is what a graph in this state answers, and so many events of the history were there before
abbrev pub IsToldIn : State → Record → Type 0
IsToldIn s (Did place event reply) = reply ≡ (answered s event).0
IsToldIn s (Saw place ask answer) = answer ≡ told s ask

abbrev pub came_before : Record → ℕ
came_before (Did place event reply) = place - 1
came_before (Saw place ask answer) = place

-- One move of an order is step j of caller c. It is made in a state that answers what the record says, and behind the same events.
pub record IsToldBy (m : Meanings) (p : Programmed) (history : List Event) (order : List Move) (c j : ℕ) (r : Record) : Type 0 where
  pub before : List Move
  pub later : List Move
  pub here : order ≡ before ++ moving.Step c ∷ later
  pub next : (place_at (led m p (start_of p) before) c).at ≡ j
  pub says : IsToldIn (led m p (start_of p) before).state r
  pub events : events_by m p (start_of p) before ≡ but_vain (length p.callers) (start p.plan) (take (came_before r) history)

-- an order tells caller c each of these records, in its step of the same number
abbrev pub TellsEach : Meanings → Programmed → List Event → List Move → ℕ → List Record → Type 0
TellsEach m p history order c records = (j : ℕ) (r : Record) → slice_get records j ≡ Some r → IsToldBy m p history order c j r

-- An order that is this history: its moves are these events, one after another, but for what workers claimed in vain, and it leads to
-- an end with the state that they leave. Each caller is told in it what it was told.
pub record IsOrderOf (m : Meanings) (p : Programmed) (history : List Event) (callers : List (ℕ × List Record)) (order : List Move) (s : Situated) : Type 0 where
  pub can_come : IsOrder m p (length order) order s
  pub events : events_by m p (start_of p) order ≡ but_vain (length p.callers) (start p.plan) history
  pub all_events : p.workers ≡ 0 → events_by m p (start_of p) order ≡ history
  pub state : s.state ≡ state_after (start p.plan) history
  pub end : is_end p s ≡ true
  pub tells : (c : ℕ) (records : List Record) → c < length p.callers → Contains callers (c, records) → TellsEach m p history order c records
