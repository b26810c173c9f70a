-- A request's row, and what one session has seen of it and was answered.
use Rattle.std.specs.Prelude.{◌≡◌, ℕ, suc, ◌+◌, ◌-◌, ◌/◌, ◌<◌, ◌≤◌, Bool, true, false, max, cond, eqb, Option, List, [], ◌∷◌, ◌++◌, All, length, map, slice_get, take, drop, Some}
use Rattle.std.specs.declared.vec.Vec.{Vec}
use Rattle.std.specs.Vec.{vec_capacity}
use Rattle.cf_forms.specs.Plans.{Planned}
use Rattle.cf_model.specs.States.{State, start}
use Rattle.cf_model.specs.Events.{answered, state_after}
use Rattle.cf_model.specs.declared.events.Event.{Event}
use Rattle.cf_model.specs.declared.events.Reply.{Reply}
use Rattle.cf_event.specs.declared.record.Record.{Record}
use Rattle.cf_model.specs.declared.asks.Ask.TheVariants.{Outcome as AsksOutcome}
use Rattle.cf_model.specs.declared.asks.Told.TheVariants.{Outcome as ToldOutcome}
use Rattle.cf_outcome.specs.declared.outcome.Outcome.{Outcome}
use Rattle.cf_event.specs.declared.record.Record.TheVariants.{Did, Saw}
use Rattle.cf_event.specs.Words.{word_of}
use Rattle.cf_event.specs.Decoding.{decoded, event_of}
use Rattle.cf_event.specs.Histories.{InOrder, IsAnswered, dids}
use Rattle.cf_ledger.specs.Ledgers.{AreTaken, Ledger, LedgerRefuses}
use Rattle.cf_ledger.specs.declared.faults.LedgerFault.{LedgerFault}
use Rattle.cf_ledger.specs.declared.faults.LedgerFault.TheVariants.{NoMemory}
use Rattle.cf_row.specs.declared.entry.Entry.{Entry}

abbrev pub words_in : List Entry → List ℕ
words_in row = map (λ (x : Entry). x.word) row

-- the history that a row is: the events of its words
abbrev pub history_of : List Entry → List Event
history_of row = decoded (words_in row)

-- the session that a token names
abbrev pub session_of : ℕ → ℕ
session_of token = token / 8388608

-- the events of these entries that one session put, with their places, counted from n + 1
abbrev pub own_from : ℕ → ℕ → List Entry → List Event → List (ℕ × Event)
own_from s n [] events = []
own_from s n (x ∷ row) [] = []
own_from s n (x ∷ row) (e ∷ events) = cond (eqb (session_of x.token) s) ((suc n, e) ∷ own_from s (suc n) row events) (own_from s (suc n) row events)

-- those of a row
abbrev pub own_in : ℕ → List Entry → List (ℕ × Event)
own_in s row = own_from s 0 row (history_of row)

-- The session's records fit the row up to a place: its changing calls are the entries up to there that it put, once each, in order and
-- at their places; each record is answered as the sequential graph answers at its place; no place is before an earlier one; and the graph
-- has room for all events up to there.
pub record FitsUpTo (plan : Planned) (session place : ℕ) (row : List Entry) (records : List Record) : Type 0 where
  pub did : dids records ≡ own_in session (take place row)
  pub answers : All (IsAnswered plan (history_of row)) records
  pub order : InOrder 0 records
  pub taken : AreTaken (start plan) (history_of (take place row))

-- the row begins with these entries
pub record BeginsWith (row seen : List Entry) : Type 0 where
  pub rest : List Entry
  pub is : row ≡ seen ++ rest

-- these entries stand in the row behind so many
abbrev pub StandsAt : List Entry → ℕ → List Entry → Type 0
StandsAt row place entries = BeginsWith (drop place row) entries

-- what a contract sees of a session's view of a row: the plan with its room, the session, the entries that were replayed, the session's
-- records, and for how many entries more memory was found
pub record Replica : Type 0 where
  pub plan : Planned
  pub session : ℕ
  pub seen : List Entry
  pub records : List Record
  pub free : ℕ

-- its graph, with all that was done to it
abbrev pub ledger_of : Replica → Ledger
ledger_of r = record { plan = r.plan; events = history_of r.seen; free = r.free }

abbrev pub state_of : Replica → State
state_of r = state_after (start r.plan) (history_of r.seen)

-- how many stages there are
abbrev pub stages_of : Replica → ℕ
stages_of r = length (state_of r).plan.stages

-- once memory was found for so many entries more
abbrev pub with_memory : Replica → ℕ → Replica
with_memory r more = record r { free = max r.free more }

-- once there is room for so many stages more
abbrev pub with_more : Replica → ℕ → Replica
with_more r more = record r { plan = record r.plan { room = r.plan.room + more } }

-- once a stage's outcome was asked for
abbrev pub with_outcome : Replica → ℕ → Option Outcome → Replica
with_outcome r stage o = record r { records = r.records ++ Saw (length r.seen) (AsksOutcome stage) (ToldOutcome o) ∷ [] }

-- THE THEOREM: whatever the row is, if all that the session was told is true of it, the session's records fit it.
abbrev pub FitsEachRow : Replica → Type 0
FitsEachRow r = (row : List Entry) → BeginsWith row r.seen → FitsUpTo r.plan r.session (length r.seen) row r.records

-- the graph, and what is kept beside it
pub record IsKept (ledger : Ledger) (session : ℕ) (seen : List Entry) (records : List Record) : Type 0 where
  pub events : ledger.events ≡ history_of seen
  pub named : words_in seen ≡ map word_of (history_of seen)
  pub own : dids records ≡ own_in session seen
  pub answers : All (IsAnswered ledger.plan (history_of seen)) records
  pub order : InOrder 0 records
  pub taken : AreTaken (start ledger.plan) (history_of seen)

-- there is memory for so many more, which the ledger has, too
pub record HasMemory {Z : Type 0} (free : ℕ) (ledger : Ledger) (seen : Vec Entry Z) (records : Vec Record Z) : Type 0 where
  pub same : ledger.free ≡ free
  pub few : free ≤ 2251799813685248
  pub of_seen : length seen.items + free ≤ vec_capacity seen
  pub of_records : length records.items + free ≤ vec_capacity records

-- one entry is replayed: the reply is the sequential graph's, and if it is the session's it is recorded
pub record Takes (old : Replica) (x : Entry) (reply : Reply) (new : Replica) : Type 0 where
  pub event : Event
  pub read : event_of x.word ≡ Some event
  pub told : reply ≡ (answered (state_of old) event).0
  pub plan : new.plan ≡ old.plan
  pub session : new.session ≡ old.session
  pub seen : new.seen ≡ old.seen ++ x ∷ []
  pub records : new.records ≡ old.records ++ cond (eqb (session_of x.token) old.session) (Did (length old.seen + 1) event reply ∷ []) []
  pub free : new.free ≡ old.free - 1

-- whether a record is of a call, and not of a question
abbrev pub is_call : Record → Bool
is_call (Did place event reply) = true
is_call (Saw place ask answer) = false

-- these entries are replayed: they stand behind the others, no record is changed, and those that are added are of calls, since nothing was asked
pub record Replays (old : Replica) (entries : List Entry) (new : Replica) : Type 0 where
  pub plan : new.plan ≡ old.plan
  pub session : new.session ≡ old.session
  pub seen : new.seen ≡ old.seen ++ entries
  pub more : List Record
  pub records : new.records ≡ old.records ++ more
  pub calls : All (λ (r : Record). is_call r ≡ true) more
  pub free : old.free ≤ new.free + length entries

-- why an entry isn't replayed: no memory was found before, or the graph doesn't take its word
abbrev pub IsNoEntry : Replica → ℕ → LedgerFault → Type 0
IsNoEntry r word NoMemory = r.free ≡ 0
IsNoEntry r word fault = LedgerRefuses (state_of r) word fault

-- why some entries aren't all replayed: memory for all of them is found first; else the one at the place is refused once those before it are done
abbrev pub IsMisfit : Replica → List Entry → Replica → ℕ → LedgerFault → Type 0
IsMisfit old entries new place NoMemory = (place ≡ 0) × (old.free < length entries)
IsMisfit old entries new place fault = (x : Entry) × (slice_get entries place ≡ Some x) × LedgerRefuses (state_of new) x.word fault
