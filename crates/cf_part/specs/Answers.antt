-- What a put, a question, an answer and the end of a function do to a part.
use Rattle.std.specs.Prelude.{◌≡◌, ◌⊎◌, ℕ, Bool, cond, true, false, not, ◌+◌, Option, Some, None, List, [], length, slice_get, slice_set, take}
use Rattle.cf_model.specs.declared.events.Event.{Event}
use Rattle.cf_model.specs.States.{start}
use Rattle.cf_model.specs.Events.{answered}
use Rattle.cf_event.specs.Words.{word_of}
use Rattle.cf_event.specs.Decoding.{event_of}
use Rattle.cf_ledger.specs.Ledgers.{AreTaken}
use Rattle.cf_ledger.specs.declared.faults.LedgerFault.{LedgerFault}
use Rattle.cf_ledger.specs.declared.faults.LedgerFault.TheVariants.{NoMemory}
use Rattle.cf_ledger.specs.declared.faults.Misfit.{Misfit}
use Rattle.cf_row.specs.declared.entry.Entry.{Entry}
use Rattle.cf_row.specs.Rows.{IsMisfit, Replays, Replica, Takes, history_of, state_of}
use Rattle.cf_row.specs.Puts.{Plans, Row, TellsOf}
use Rattle.cf_part.specs.declared.progress.Progress.{Progress}
use Rattle.cf_part.specs.declared.progress.Progress.TheVariants.{Runs, Stopped, Ended}
use Rattle.cf_part.specs.declared.question.Fault.{Fault}
use Rattle.cf_part.specs.declared.question.Fault.TheVariants.{Broken}
use Rattle.cf_part.specs.declared.question.PutOf.{PutOf}
use Rattle.cf_part.specs.declared.question.PutOf.TheVariants.{Finish, Act, Rest}
use Rattle.cf_notes.specs.Noting.{noted_along, noted_by}
use Rattle.cf_notes.specs.Tables.{Table}
use Rattle.cf_notes.specs.declared.note.Note.{Note}
use Rattle.cf_notes.specs.declared.wants.EndsWith.{EndsWith}
use Rattle.cf_notes.specs.declared.wants.EndsWith.TheVariants.{Gives, NoValue, Throws, Passes, Links}
use Rattle.cf_notes.specs.declared.wants.Owed.{Owed}
use Rattle.cf_notes.specs.declared.wants.Want.{Want}
use Rattle.cf_part.specs.Parts.{Part, call_in, later, notes_wanted, owed_in, roomier, words_wanted}

-- a put of these words is planned, and what is known of it is kept
pub record PlansWords (old : Part) (wants : List Want) (of : PutOf) (new : Part) : Type 0 where
  pub row : Plans old.row (words_wanted wants) new.row
  pub rest : new ≡ record old { row = new.row; wants = wants; of = of }

-- ---- entries

-- the row has no put under way any more, and its next token is as before
pub record IsFreed (old new : Row) : Type 0 where
  pub put : new.put ≡ []
  pub next : new.next ≡ old.next

-- the notes of these entries are taken, which stand behind all that was seen
pub record TakesNotes (r : Replica) (entries : List Entry) (said : List Note) (old new : Table) : Type 0 where
  pub stages : new.stages ≡ noted_along old.stages (state_of r) (length r.seen) (history_of entries) said
  pub places : length new.stages + new.room ≡ length old.stages + old.room

-- one entry is seen, and its note is taken
pub record SeesOne (old : Row) (table : Table) (x : Entry) (note : Note) (new : Row) (noted : Table) : Type 0 where
  pub event : Event
  pub read : event_of x.word ≡ Some event
  pub named : word_of event ≡ x.word
  pub takes : Takes old.replica x ((answered (state_of old.replica) event).0) new.replica
  pub stages : noted.stages ≡ noted_by table.stages (length new.replica.seen) event ((answered (state_of old.replica) event).0) note
  pub places : length noted.stages + noted.room ≡ length table.stages + table.room
  pub freed : IsFreed old new

-- these entries are seen with their notes
pub record Sees (old : Row) (table : Table) (entries : List Entry) (said : List Note) (new : Row) (noted : Table) : Type 0 where
  pub replays : Replays old.replica entries new.replica
  pub notes : TakesNotes old.replica entries said table noted
  pub freed : IsFreed old new

-- those of a read are
pub record Reads (old : Part) (entries : List Entry) (said : List Note) (new : Part) : Type 0 where
  pub sees : Sees old.row old.notes entries said new.row new.notes
  pub rest : new ≡ record old { row = new.row; notes = new.notes; asked = None; is_stale = false }

-- a word that the graph doesn't take breaks the request
abbrev pub fault_after : LedgerFault → Option Fault → Option Fault
fault_after NoMemory fault = fault
fault_after why fault = Some Broken

-- those before the first that isn't replayed are seen: for want of memory none is, and is asked for again later
pub record Misreads (old : Part) (now : ℕ) (entries : List Entry) (said : List Note) (m : Misfit) (new : Part) : Type 0 where
  pub sees : Sees old.row old.notes (take m.place entries) (take m.place said) new.row new.notes
  pub why : IsMisfit old.row.replica entries new.row.replica m.place m.why
  pub rest : new ≡ record old { row = new.row; notes = new.notes; asked = None; retry = later now; fault = fault_after m.why old.fault }

-- the put stands, and is seen with the notes of its words
pub record Lands (old new : Part) : Type 0 where
  pub sees : Sees old.row old.notes old.row.put (notes_wanted old.wants) new.row new.notes
  pub rest : new ≡ record old { row = new.row; notes = new.notes; wants = []; asked = None }

-- what is told of the put where these entries stand at its place
abbrev pub TellsBy : Row → List Entry → Bool → Type 0
TellsBy row entries landed = (first : Entry) → slice_get entries 0 ≡ Some first → TellsOf row.replica row.put first landed

-- these entries stand where the put was to stand, and are seen
pub record Meets (old : Part) (entries : List Entry) (said : List Note) (landed : Bool) (new : Part) : Type 0 where
  pub tells : TellsBy old.row entries landed
  pub sees : Sees old.row old.notes entries said new.row new.notes
  pub rest : new ≡ record old { row = new.row; notes = new.notes; wants = []; asked = None }

-- those before one that doesn't fit the graph are seen, which breaks the request
pub record BreaksOff (old : Part) (entries : List Entry) (said : List Note) (place : ℕ) (new : Part) : Type 0 where
  pub sees : Sees old.row old.notes (take place entries) (take place said) new.row new.notes
  pub rest : new ≡ record old { row = new.row; notes = new.notes; wants = []; asked = None; fault = Some Broken }

-- for want of memory none is seen, and the put stays under way, to be asked for again later
abbrev pub MismeetsBy : LedgerFault → Part → ℕ → List Entry → List Note → ℕ → Part → Type 0
MismeetsBy NoMemory old now entries said place new = new ≡ record old { asked = None; retry = later now }
MismeetsBy why old now entries said place new = BreaksOff old entries said place new

-- not all of these entries are seen
pub record Mismeets (old : Part) (now : ℕ) (entries : List Entry) (said : List Note) (m : Misfit) (new : Part) : Type 0 where
  pub why : IsMisfit old.row.replica entries new.row.replica m.place m.why
  pub done : MismeetsBy m.why old now entries said m.place new

-- ---- no entries

-- no answer came: what was asked is asked again later, a put as it is
abbrev pub Waits : Part → ℕ → Part → Type 0
Waits old now new = new ≡ record old { asked = None; retry = later now }

-- whether what a function came to has a payload that a store can refuse
abbrev pub has_payload : EndsWith → Bool
has_payload Gives = true
has_payload NoValue = false
has_payload Throws = true
has_payload (Passes code) = false
has_payload (Links stage) = false

-- whether an error stands in for it next: where its payload was refused. If the error is refused too, it wasn't the payload, which is put again
abbrev pub is_error_next : Bool → Bool → Bool
is_error_next true payload = false
is_error_next false payload = payload

abbrev pub owed_after : Option Owed → Option Owed
owed_after None = None
owed_after (Some o) = Some (record o { is_error = is_error_next o.is_error (has_payload o.answer) })

-- what is owed once a put was refused
abbrev pub owed_refused : PutOf → List (Option Owed) → List (Option Owed)
owed_refused (Finish i) owed = slice_set owed i (owed_after (owed_in owed i))
owed_refused Act owed = owed
owed_refused Rest owed = owed

abbrev pub is_error_in : Option Owed → Bool
is_error_in None = false
is_error_in (Some o) = o.is_error

-- whether an error is put at once
abbrev pub is_error_due : PutOf → List (Option Owed) → Bool
is_error_due (Finish i) owed = is_error_in (owed_after (owed_in owed i))
is_error_due Act owed = false
is_error_due Rest owed = false

-- a put was refused: it is given up, and what is to stand there is decided again, later if no error stands in
abbrev pub Refuses : Part → ℕ → Part → Type 0
Refuses old now new =
    new ≡ record old {
      row = record old.row { put = [] };
      wants = [];
      asked = None;
      owed = owed_refused old.of old.owed;
      retry = cond (is_error_due old.of old.owed) old.retry (later now);
    }

-- the request was closed, or more stands there, which is to be read
abbrev pub Closes : Part → Bool → Part → Type 0
Closes old is_closed new = new ≡ record old { asked = None; is_closed = is_closed; is_stale = not is_closed }

-- nothing goes on any more
abbrev pub Breaks : Part → Fault → Part → Type 0
Breaks old fault new = new ≡ record old { row = record old.row { put = [] }; wants = []; asked = None; fault = Some fault }

-- ---- room

-- there is room for so many stages more, and nothing else changes: the graph, which took all that was seen, is the same with more room
pub record Grows (old : Part) (more : ℕ) (new : Part) : Type 0 where
  pub taken : AreTaken (start old.row.replica.plan) (history_of old.row.replica.seen)
  pub rest : new ≡ roomier old more

-- ---- calls of functions

-- a stage's function was called, and hasn't ended
abbrev pub IsRunningIn : List Progress → ℕ → Type 0
IsRunningIn calls i = (call_in calls i ≡ Runs) ⊎ (call_in calls i ≡ Stopped)

abbrev pub IsRunning : Part → ℕ → Type 0
IsRunning p i = IsRunningIn p.calls i

-- its function has ended, and what it came to is owed
abbrev pub Ends : Part → ℕ → EndsWith → Part → Type 0
Ends old i answer new =
    new ≡ record old { calls = slice_set old.calls i Ended; owed = slice_set old.owed i (Some (record { answer = answer; is_error = false })) }
