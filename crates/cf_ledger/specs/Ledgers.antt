-- What a contract sees of a ledger, and what a word does to it.
use Rattle.std.specs.Prelude.{◌≡◌, ◌≢◌, ℕ, ◌+◌, ◌-◌, ◌*◌, ◌<◌, ◌≤◌, zero, suc, Bool, true, Some, None, List, [], ◌∷◌, ◌++◌, length, map, position, take}
use Rattle.std.specs.declared.vec.Vec.{Vec}
use Rattle.std.specs.Vec.{vec_capacity}
use Rattle.cf_forms.specs.Plans.{Planned, has_place, with_room}
use Rattle.cf_model.specs.States.{State, start}
use Rattle.cf_model.specs.declared.events.Event.{Event}
use Rattle.cf_model.specs.declared.events.Event.TheVariants.{Attach as Attaches}
use Rattle.cf_model.specs.declared.events.Reply.{Reply}
use Rattle.cf_model.specs.Events.{answered, state_after}
use Rattle.cf_model.specs.Graphs.{Graph}
use Rattle.cf_model.specs.Ranges.{EventFits}
use Rattle.cf_event.specs.Words.{word_of}
use Rattle.cf_event.specs.Decoding.{decoded, event_of}
use Rattle.cf_ledger.specs.News.{AreNoted, News}
use Rattle.cf_ledger.specs.declared.faults.LedgerFault.{LedgerFault}
use Rattle.cf_ledger.specs.declared.faults.LedgerFault.TheVariants.{NoMemory, NoEvent, NoStage, NoRoom}

-- the plan that it was opened with, with the room that it has in all; the events that were done, in order; and for how many words more
-- memory was found by `reserve`
pub record Ledger : Type 0 where
  pub plan : Planned
  pub events : List Event
  pub free : ℕ

-- the graph's state, which is what the events leave
abbrev pub state_of : Ledger → State
state_of ledger = state_after (start ledger.plan) ledger.events

-- and its state after so many events
abbrev pub state_at : Ledger → ℕ → State
state_at ledger place = state_after (start ledger.plan) (take place ledger.events)

-- how many stages there are
abbrev pub stages_of : Ledger → ℕ
stages_of ledger = length (state_of ledger).plan.stages

-- a stage that an event attaches has room
abbrev pub HasRoomFor : State → Event → Type 0
HasRoomFor s (Attaches who form of function) = 0 < s.plan.room
HasRoomFor s event = Unit {0}

-- an event that a ledger takes where its graph is in this state
pub record IsTaken (s : State) (e : Event) : Type 0 where
  pub fits : EventFits (length s.plan.stages) e
  pub room : HasRoomFor s e

-- each of these events is taken as those before it leave the graph
abbrev pub AreTaken : State → List Event → Type 0
AreTaken s [] = Unit {0}
AreTaken s (e ∷ events) = IsTaken s e × AreTaken ((answered s e).1) events

-- the ledger with one more event, for which memory was found before if any was
abbrev pub and_event : Ledger → Event → Ledger
and_event ledger e = record ledger { events = ledger.events ++ e ∷ []; free = ledger.free - 1 }

-- a word is done: it is that of an event that is taken, the reply is the sequential graph's, and the event is written behind the others
pub record Does (word : ℕ) (old : Ledger) (reply : Reply) (new : Ledger) : Type 0 where
  pub event : Event
  pub read : event_of word ≡ Some event
  pub named : word_of event ≡ word
  pub taken : IsTaken (state_of old) event
  pub told : (reply, state_of new) ≡ answered (state_of old) event
  pub written : new ≡ and_event old event

-- these words are done, one after another: each is that of an event that is taken, and the events are written behind the others
pub record DoesAll (old : Ledger) (words : List ℕ) (new : Ledger) : Type 0 where
  pub named : map word_of (decoded words) ≡ words
  pub taken : AreTaken (state_of old) (decoded words)
  pub written : new ≡ record old { events = old.events ++ decoded words; free = old.free - length words }

-- why a word isn't done: the first of these, want of memory being the last
abbrev pub LedgerRefuses : State → ℕ → LedgerFault → Type 0
LedgerRefuses s word NoMemory = (e : Event) × (event_of word ≡ Some e) × EventFits (length s.plan.stages) e × HasRoomFor s e
LedgerRefuses s word NoEvent = event_of word ≡ None
LedgerRefuses s word NoStage = (e : Event) × (event_of word ≡ Some e) × ¬ EventFits (length s.plan.stages) e
LedgerRefuses s word NoRoom = (e : Event) × (event_of word ≡ Some e) × EventFits (length s.plan.stages) e × ¬ HasRoomFor s e

-- memory is wanting only where none was found before
abbrev pub IsShort : ℕ → LedgerFault → Type 0
IsShort free NoMemory = free ≡ 0
IsShort free fault = Unit {0}

-- the words before the k-th are those of events that are taken, and the k-th isn't done for this reason
abbrev pub IsFirstRefused : State → ℕ → List ℕ → LedgerFault → Type 0
IsFirstRefused s k [] why = ⊥
IsFirstRefused s zero (w ∷ words) why = LedgerRefuses s w why
IsFirstRefused s (suc k) (w ∷ words) why =
    (e : Event) × (event_of w ≡ Some e) × IsTaken s e × IsFirstRefused ((answered s e).1) k words why

-- from the start of this plan on, word k isn't done for this reason, unless that is want of memory
abbrev pub IsFirstMisfit : Planned → ℕ → List ℕ → LedgerFault → Type 0
IsFirstMisfit plan k words why = why ≢ NoMemory → IsFirstRefused (start plan) k words why

-- The plan and the words of a ledger: its graph is in the state that they leave, with no turn left, no flag is set, and it has noted which stages each changed.
pub record IsKept (plan : Planned) (words : List ℕ) (g : Graph) (changed : List Bool) (lists : List (List ℕ)) : Type 0 where
  pub place : has_place plan.stages plan.room ≡ true
  pub written : words ≡ map word_of (decoded words)
  pub taken : AreTaken (start plan) (decoded words)
  pub left : g.state ≡ state_after (start plan) (decoded words)
  pub worked_out : g.left ≡ None
  pub unset : position (λ b. b) changed ≡ None
  pub flags : length changed ≡ length g.state.plan.stages + g.state.plan.room
  pub noted : AreNoted (start plan) (decoded words) lists

-- there are places for so many words more, and for what each of them changes, which is so many stages at most
pub record HavePlaces {Z : Type 0} (count most : ℕ) (words : Vec ℕ Z) (news : News) : Type 0 where
  pub of_words : count ≤ vec_capacity words - length words.items
  pub of_lists : count ≤ news.more
  pub of_stages : count * most ≤ news.free

-- the ledger of a plan and of these words, with memory for so many more
abbrev pub ledger_of : Planned → List ℕ → ℕ → Ledger
ledger_of plan words free = record { plan = plan; events = decoded words; free = free }

-- the ledger of a plan that was opened with this room, and of these words, with memory for so many more
abbrev pub opened_with : Planned → ℕ → List ℕ → ℕ → Ledger
opened_with plan room words free = ledger_of (with_room plan room) words free

-- the ledger with room for more stages, by which nothing else changes
abbrev pub with_more : Ledger → ℕ → Ledger
with_more ledger more = record ledger { plan = record ledger.plan { room = ledger.plan.room + more } }

-- the state with room for more stages
abbrev pub roomier : ℕ → State → State
roomier more s = record s { plan = record s.plan { room = s.plan.room + more } }
