-- What contracts see of a pass and of a desk.
use Rattle.cf_forms.specs.Plans.{Planned, plan_of}
use Rattle.std.specs.Prelude.{◌≡◌, ◌<◌, ◌≤◌, ◌+◌, Bool, true, false, Option, Some, None, ◌⊎◌, length, map, take, ℕ, List, [], ◌∷◌, ◌++◌}
use Rattle.atomic_table.specs.Seated.{TableId}
use Rattle.cf_outcome.specs.declared.outcome.Outcome.{Outcome}
use Rattle.cf_model.specs.declared.asks.Ask.{Ask}
use Rattle.cf_model.specs.declared.asks.Ask.TheVariants.{Outcome as AsksOutcome}
use Rattle.cf_model.specs.declared.asks.Told.{Told}
use Rattle.cf_model.specs.declared.asks.Told.TheVariants.{Outcome as ToldOutcome}
use Rattle.cf_model.specs.declared.events.Event.{Event}
use Rattle.cf_model.specs.declared.events.Reply.{Reply}
use Rattle.cf_model.specs.States.{State, claim_at, lowest_ready_of, outcome_at}
use Rattle.cf_model.specs.Events.{answered, state_at, told}
use Rattle.cf_model.specs.declared.calls.Call.{Call}
use Rattle.cf_desk.specs.declared.calls.Joined.{Joined}
use Rattle.cf_desk.specs.declared.calls.Rec.{Rec}
use Rattle.cf_desk.specs.declared.calls.Rec.TheVariants.{Did, Saw}
use Rattle.cf_desk.specs.declared.row.CallerView.{CallerView}
use Rattle.cf_desk.specs.declared.row.DeskConfig.{DeskConfig}
use Rattle.cf_model.specs.Calls.{event_by}
use Rattle.cf_desk.specs.Calls.{joined}
use Rattle.cf_event.specs.Decoding.{event_of}
use Rattle.cf_event.specs.Events.{own}
use Rattle.cf_model.specs.Graphs.{Graph}
use Rattle.cf_desk.specs.Log.{IsDeskEvent, AreLogged, Catches, state_from}
use Rattle.cf_desk.specs.Records.{Fits}
use Rattle.cf_desk.specs.Rows.{Begins}
use Rattle.cf_desk.specs.Rule.{longest, with_seen, fresh, count_in, AllShort}
use Rattle.std.specs.List.{All}
use Rattle.atomic_table.specs.Table.{Me}

pub record Pass : Type 0 where
  -- the row of its desk
  pub table : TableId
  -- what the desk was opened with, the pass's caller, the events that it has seen, and the places at which it looked and found nothing
  pub known : CallerView
  -- what it has recorded so far, in order
  pub records : List Rec
  -- how many records it may hold
  pub calls : ℕ

pub record Desk : Type 0 where
  -- its row
  pub table : TableId
  -- its plan with the room for more stages, the number of its callers, and how many functions it has
  pub setting : DeskConfig
  -- how many words the row has, filled or empty
  pub words : ℕ

pub record Notice : Type 0 where
  -- the row of its desk
  pub table : TableId
  -- the events that the pass which gave it had seen
  pub seen : List Event

abbrev pub no_one : CallerView
no_one = record { setting = record { plan = plan_of [] []; callers = 0; functions = 0 }; caller = 0; seen = []; looks = []; filled = 0; before = [] }

abbrev pub known_of : List CallerView → CallerView
known_of [] = no_one
known_of (k ∷ ks) = k

-- the state of what a pass has seen
abbrev pub state_of : CallerView → State
state_of k = state_from k.setting.plan k.seen

-- the state of the first n events of what a pass has seen
abbrev pub state_up_to : ℕ → CallerView → State
state_up_to n k = state_from k.setting.plan (take n k.seen)

-- a pass's caller, the events that it has seen and how many they are, and its looks
abbrev pub caller_of : Pass → ℕ
caller_of p = p.known.caller

abbrev pub seen_by : Pass → List Event
seen_by p = p.known.seen

abbrev pub place_in : Pass → ℕ
place_in p = length (seen_by p)

abbrev pub looks_by : Pass → List ℕ
looks_by p = p.known.looks

-- the state of what it has seen, how many stages there are then, and the lowest ready one
abbrev pub state_in : Pass → State
state_in p = state_of p.known

abbrev pub stages_in : Pass → ℕ
stages_in p = length (state_in p).plan.stages

abbrev pub ready_in : Pass → Option ℕ
ready_in p = lowest_ready_of (state_in p)

-- the state at a place of what it has seen
abbrev pub state_then : Pass → ℕ → State
state_then p place = state_at p.known.setting.plan (seen_by p) place

-- the event of a call of its caller
abbrev pub own_event : Pass → Call → Event
own_event p call = event_by (caller_of p) call

-- it is a pass of the row of this desk
abbrev pub IsAt : Desk → Pass → Type 0
IsAt d p = p.table ≡ d.table

-- these events are those that it has seen, and then events of other callers
abbrev pub GoesOnTo : Pass → List Event → Type 0
GoesOnTo p now = Catches (caller_of p) (seen_by p) now

-- its records fit these events
abbrev pub FitsAmong : Pass → List Event → Type 0
FitsAmong p events = Fits p.known.setting.plan (caller_of p) events p.records

-- the pass where it has seen these events, with more looks, and with one more record
abbrev pub seeing : Pass → List Event → Pass
seeing p events = record p { known = with_seen events p.known }

abbrev pub and_looks : Pass → List ℕ → Pass
and_looks p more = record p { known = record p.known { looks = looks_by p ++ more } }

abbrev pub and_record : Pass → Rec → Pass
and_record p r = record p { records = p.records ++ r ∷ [] }

-- the pass is of one of the desk's callers, of whom there are at most 64
abbrev pub HasCaller : CallerView → Type 0
HasCaller k = (k.caller < k.setting.callers) × (k.setting.callers ≤ 64)

-- the call of the pass's caller is an event that the desk's log can hold behind what the pass has seen
abbrev pub IsOwnEvent : Pass → Call → Type 0
IsOwnEvent p call = IsDeskEvent p.known.setting (state_in p) (own_event p call)

-- the stage is there in what the pass has seen, and the claim of it that is open there is its caller's
abbrev pub HoldsClaim : Pass → ℕ → Type 0
HoldsClaim p i = (i < stages_in p) × (claim_at (state_in p) i ≡ Some (caller_of p))

-- the next word was that of another caller's event
pub record AddedByOther (p q : Pass) : Type 0 where
  pub found : Event
  pub is : q ≡ seeing p (seen_by p ++ found ∷ [])
  pub event : IsDeskEvent p.known.setting (state_in p) found
  pub other : own (caller_of p) (found ∷ []) ≡ []

-- the pass is of this desk
abbrev pub IsOf : Desk → Pass → Type 0
IsOf d p = IsAt d p × (p.known.setting ≡ d.setting)

abbrev pub IsBetween : ℕ → ℕ → ℕ → Type 0
IsBetween low high n = (low ≤ n) × (n ≤ high)

-- the pass has seen more events, of other callers alone, and looked at more places from what it had seen to what it has
pub record Follows (p q : Pass) : Type 0 where
  pub now : List Event
  pub more : List ℕ
  pub is : q ≡ and_looks (seeing p now) more
  pub caught : GoesOnTo p now
  pub between : All (IsBetween (place_in p) (length now)) more

-- the next event is the pass's own call, which it recorded with its reply
pub record AddedOwn (p : Pass) (call : Call) (reply : Reply) (q : Pass) : Type 0 where
  pub is : q ≡ and_record (seeing p (seen_by p ++ own_event p call ∷ [])) (Did (place_in p + 1) call reply)
  pub replied : reply ≡ (answered (state_in p) (own_event p call)).0

-- the pass has seen more events of other callers and then its own new one, and recorded its reply from the state before it
pub record Acts (p : Pass) (call : Call) (reply : Reply) (q : Pass) : Type 0 where
  pub before : List Event
  pub caught : GoesOnTo p before
  pub is : q ≡ and_record (seeing p (before ++ own_event p call ∷ [])) (Did (length before + 1) call reply)
  pub replied : reply ≡ (answered (state_in (seeing p before)) (own_event p call)).0

-- the pass has seen more events of other callers, looked, and recorded what it was told of the state after them
pub record Reads (p : Pass) (ask : Ask) (answer : Told) (q : Pass) : Type 0 where
  pub now : List Event
  pub more : List ℕ
  pub caught : GoesOnTo p now
  pub between : All (IsBetween (place_in p) (length now)) more
  pub is : q ≡ and_record (and_looks (seeing p now) more) (Saw (length now) ask answer)
  pub told_is : answer ≡ told (state_in (seeing p now)) ask

-- the same of a join, which asks for the stage's outcome
pub record Joins (p : Pass) (stage : ℕ) (answer : Joined) (q : Pass) : Type 0 where
  pub outcome : Option Outcome
  pub read : Reads p (AsksOutcome stage) (ToldOutcome outcome) q
  pub answered_so : answer ≡ joined outcome

-- what a seat knows of the first pass for which it stands
abbrev pub known_at : Me ℕ (List CallerView) → CallerView
known_at me = known_of me.0

-- a seat that stands for one pass and holds no slot
abbrev pub IsOne : Me ℕ (List CallerView) → Type 0
IsOne me = me ≡ (known_at me ∷ [], [])

-- the longer of what two passes have seen
abbrev pub longer_of : CallerView → CallerView → List Event
longer_of k l = longest (k ∷ l ∷ [])

abbrev pub longer_at : Me ℕ (List CallerView) → Me ℕ (List CallerView) → List Event
longer_at a b = longer_of (known_at a) (known_at b)

-- two seats know the longer list of the two, which is of events of their desk, and goes on behind each with those of other callers
pub record Levelled (a b : Me ℕ (List CallerView)) (a' b' : Me ℕ (List CallerView)) : Type 0 where
  pub left : a' ≡ (with_seen (longer_at a b) (known_at a) ∷ [], [])
  pub right : b' ≡ (with_seen (longer_at a b) (known_at b) ∷ [], [])
  pub begins_left : Catches (known_at a).caller (known_at a).seen (longer_at a b)
  pub begins_right : Catches (known_at b).caller (known_at b).seen (longer_at a b)
  pub logged_left : AreLogged (known_at a).setting (longer_at a b)
  pub logged_right : AreLogged (known_at b).setting (longer_at a b)

-- two passes have seen the longer of their two lists, which their records fit
pub record Meets (p q p' q' : Pass) : Type 0 where
  pub all : List Event
  pub either : (all ≡ seen_by p) ⊎ (all ≡ seen_by q)
  pub left : p' ≡ seeing p all
  pub right : q' ≡ seeing q all
  pub begins_left : GoesOnTo p all
  pub begins_right : GoesOnTo q all
  pub fits_left : FitsAmong p all
  pub fits_right : FitsAmong q all

-- the pass has seen its own list or the notice's, which both begin what it has seen now
pub record Heeds (p : Pass) (notice : Notice) (q : Pass) : Type 0 where
  pub all : List Event
  pub either : (all ≡ seen_by p) ⊎ (all ≡ notice.seen)
  pub is : q ≡ seeing p all
  pub caught : GoesOnTo p all
  pub begins : Begins notice.seen (seen_by q)

-- passes that have seen and recorded nothing
abbrev pub new_pass : TableId → ℕ → CallerView → Pass
new_pass z calls k = record { table = z; known = k; records = []; calls = calls }

abbrev pub opened : TableId → DeskConfig → ℕ → List Pass
opened z setting calls = map (new_pass z calls) (fresh setting 0 setting.callers)

abbrev pub knowns : List Pass → List CallerView
knowns ps = map (λ (p : Pass). p.known) ps

-- the history is the longest list that one of these passes has seen, each other list begins it, and each caller has one of them
pub record Closes (d : Desk) (passes : List Pass) (history : List Event) : Type 0 where
  pub longest : history ≡ longest (knowns passes)
  pub begins : All (λ (p : Pass). GoesOnTo p history) passes
  pub events : AreLogged d.setting history
  pub each : (c : ℕ) → c < d.setting.callers → count_in c (knowns passes) ≡ 1
  pub room : length history ≤ d.words

-- the same pass, of the same desk
abbrev pub IsSamePass : Pass → Pass → Type 0
IsSamePass p q = (q.table ≡ p.table) × (q.known.setting ≡ p.known.setting) × (caller_of q ≡ caller_of p) × (q.calls ≡ p.calls)

-- a plan and a list are those of one of these
abbrev pub IsOneOf : Planned → List Event → List CallerView → Type 0
IsOneOf plan seen [] = ⊥
IsOneOf plan seen (k ∷ ks) = ((plan ≡ k.setting.plan) × (seen ≡ k.seen)) ⊎ IsOneOf plan seen ks

-- the state after the longest list that one of these has seen
pub record IsLatest (most : ℕ) (s : State) (ks : List CallerView) : Type 0 where
  pub plan : Planned
  pub seen : List Event
  pub state : s ≡ state_from plan seen
  pub count : most ≡ length seen
  pub one : IsOneOf plan seen ks
  pub short : AllShort most ks

-- the state after the longest list that one of these passes has seen
abbrev pub IsLatestOf : List Pass → State → Type 0
IsLatestOf passes s = (most : ℕ) × IsLatest most s (knowns passes)

-- what the pass has seen fills the log
abbrev pub SeesFull : Desk → Pass → Type 0
SeesFull d p = place_in p ≡ d.words

-- the pass has seen more events of other callers, without a look, and they fill the log
abbrev pub FindsFull : Desk → Pass → Pass → Type 0
FindsFull d p q = Follows p q × (looks_by q ≡ looks_by p) × SeesFull d q

-- a look: it met an empty word behind all that the pass has seen, or that fills the log and there is no word to look at
abbrev pub IsLook : Desk → Pass → List ℕ → Type 0
IsLook d p look = (look ≡ place_in p ∷ []) ⊎ ((look ≡ []) × SeesFull d p)

-- the pass looked once
pub record LooksOnce (d : Desk) (p q : Pass) : Type 0 where
  pub look : List ℕ
  pub is : looks_by q ≡ looks_by p ++ look
  pub last : IsLook d q look

-- at this place in what the pass has seen the stage wasn't settled
abbrev pub IsUnsettledAt : Pass → ℕ → ℕ → Type 0
IsUnsettledAt p stage place = (place ≤ place_in p) × (outcome_at (state_then p place) stage ≡ None)

-- The pass looked so many times at most, the last time at all that it has seen. Each earlier look found the stage unsettled, and
-- where the last one did too, it was the last of so many, or what was seen fills the log.
pub record LooksFor (d : Desk) (stage most : ℕ) (p q : Pass) : Type 0 where
  pub earlier : List ℕ
  pub look : List ℕ
  pub is : looks_by q ≡ looks_by p ++ earlier ++ look
  pub unsettled : All (IsUnsettledAt q stage) earlier
  pub last : IsLook d q look
  pub at_most : length earlier + length look ≤ most
  pub all : outcome_at (state_in q) stage ≡ None → (length earlier + length look ≡ most) ⊎ SeesFull d q

-- the event of a word is done to a replica
pub record HasRedone (word : ℕ) (old new : Graph) : Type 0 where
  pub event : Event
  pub read : event_of word ≡ Some event
  pub done : new.state ≡ (answered old.state event).1

-- or the word is none
abbrev pub IsRedone : ℕ → Graph → Bool → Graph → Type 0
IsRedone word old true new = HasRedone word old new
IsRedone word old false new = (event_of word ≡ None) × (new ≡ old)
