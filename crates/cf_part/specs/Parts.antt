-- One process's part in one request.
use Rattle.std.specs.Prelude.{◌≡◌, ℕ, ◌+◌, ◌*◌, ◌<◌, ◌≤◌, ◌||◌, ◌++◌, Bool, true, false, cond, min, Option, Some, None, List, [], is_some, length, map, nat_lt, replicate, slice_index_or, ◌∷◌}
use Rattle.std.specs.declared.vec.Vec.{Vec}
use Rattle.std.specs.Vec.{vec_capacity}
use Rattle.cf_forms.specs.Plans.{Planned, with_room}
use Rattle.cf_model.specs.States.{State}
use Rattle.cf_row.specs.Rows.{Replica, stages_of, state_of, with_more, words_in}
use Rattle.cf_row.specs.Puts.{Row}
use Rattle.cf_row.specs.declared.entry.Entry.{Entry}
use Rattle.cf_notes.specs.Noting.{noted_plan}
use Rattle.cf_notes.specs.Tables.{Table}
use Rattle.cf_notes.specs.declared.note.Note.{Note}
use Rattle.cf_part.specs.declared.progress.Progress.{Progress}
use Rattle.cf_part.specs.declared.progress.Progress.TheVariants.{NotCalled}
use Rattle.cf_part.specs.declared.question.Fault.{Fault}
use Rattle.cf_part.specs.declared.question.PutOf.{PutOf}
use Rattle.cf_part.specs.declared.question.PutOf.TheVariants.{Rest}
use Rattle.cf_part.specs.declared.question.Question.{Question}
use Rattle.cf_part.specs.declared.question.Question.TheVariants.{Read, Put, Close}
use Rattle.cf_notes.specs.declared.wants.EndsWith.TheVariants.{NoValue}
use Rattle.cf_notes.specs.declared.wants.Owed.{Owed}
use Rattle.cf_notes.specs.declared.wants.Want.{Want}

-- What a contract sees: the session's view of the row with the put that is under way; of each stage what the notes say, how far its call has
-- come, what is owed (no value until its function is called, and what it came to once it has ended), and from which moment on it is shown, if somebody waits; the notes and payloads of the put, and what it is of; the question that is open; how many words the store has
-- told of, and whether it has to be read besides; before which moment nothing is asked; and why nothing goes on any more.
pub record Part : Type 0 where
  pub row : Row
  pub notes : Table
  pub calls : List Progress
  pub owed : List (Option Owed)
  pub wanted : List (Option ℕ)
  pub wants : List Want
  pub of : PutOf
  pub asked : Option Question
  pub words : ℕ
  pub is_stale : Bool
  pub retry : ℕ
  pub fault : Option Fault
  pub is_flow : Bool
  pub is_closed : Bool

abbrev pub state_in : Part → State
state_in p = state_of p.row.replica

-- how many entries it has seen
abbrev pub seen_by : Part → ℕ
seen_by p = length p.row.replica.seen

abbrev pub session_of : Part → ℕ
session_of p = p.row.replica.session

abbrev pub call_in : List Progress → ℕ → Progress
call_in calls i = slice_index_or calls i NotCalled

abbrev pub owed_in : List (Option Owed) → ℕ → Option Owed
owed_in owed i = slice_index_or owed i None

abbrev pub wanted_in : List (Option ℕ) → ℕ → Option ℕ
wanted_in wanted i = slice_index_or wanted i None

-- somebody waits for a stage
abbrev pub is_waited : List (Option ℕ) → Bool
is_waited [] = false
is_waited (from ∷ wanted) = is_some from || is_waited wanted

-- ---- what is kept

-- how many stages there may ever be
abbrev pub places_of : Planned → ℕ
places_of plan = length plan.stages + plan.room

-- a put is asked for where one is under way, and nothing else is
abbrev pub FitsPut : Row → Option Question → Type 0
FitsPut row None = Unit {0}
FitsPut row (Some (Read at)) = row.put ≡ []
FitsPut row (Some (Put at)) = 0 < length row.put
FitsPut row (Some (Close at)) = row.put ≡ []

abbrev pub words_wanted : List Want → List ℕ
words_wanted wants = map (λ (w : Want). w.word) wants

-- the notes of a put's words
abbrev pub notes_wanted : List Want → List Note
notes_wanted wants = map (λ (w : Want). w.note) wants

-- a put has this many words at most
abbrev pub most_wants : ℕ
most_wants = 8

-- what is known of the put is of its words, which are few, and memory was found for them
pub record IsPutOfWants (row : Row) (wants : List Want) : Type 0 where
  pub words : words_wanted wants ≡ words_in row.put
  pub few : length wants ≤ most_wants
  pub memory : length row.put ≤ row.replica.free

-- the notes have an entry for each stage, and places for all that may come
pub record AreOfStages (r : Replica) (notes : Table) : Type 0 where
  pub each_stage : length notes.stages ≡ stages_of r
  pub places : length notes.stages + notes.room ≡ places_of r.plan

-- there is a place for each stage that there may ever be; what is known of the put is of its words; and the question fits
pub record IsSound (row : Row) (calls : List Progress) (owed : List (Option Owed)) (wanted : List (Option ℕ)) (wants : List Want) (asked : Option Question) : Type 0 where
  pub of_calls : length calls ≡ places_of row.replica.plan
  pub of_owed : length owed ≡ places_of row.replica.plan
  pub of_wanted : length wanted ≡ places_of row.replica.plan
  pub few : places_of row.replica.plan ≤ 4096
  pub put : IsPutOfWants row wants
  pub fits : FitsPut row asked

-- there are places for a put
pub record HasPlaces {W : Type 0} {X : Type 0} {Y : Type 0} {Z : Type 0} (words : Vec ℕ W) (wants : Vec Want X) (landing : Vec Entry Y) (said : Vec Note Z) : Type 0 where
  pub of_words : most_wants ≤ vec_capacity words
  pub of_wants : most_wants ≤ vec_capacity wants
  pub of_entries : most_wants ≤ vec_capacity landing
  pub of_notes : most_wants ≤ vec_capacity said

-- What is owed of a stage whose function wasn't called: where another process settles the stage, the finish closes its claim.
abbrev pub no_value : Owed
no_value = record { answer = NoValue; is_error = false }

-- as it is opened
abbrev pub opened : Planned → List Note → ℕ → ℕ → ℕ → Bool → Part
opened plan notes room session first is_flow =
    let places = length plan.stages + room in
    record {
      row = record {
        replica = record { plan = with_room plan room; session = session; seen = []; records = []; free = 0 };
        put = [];
        next = session * 8388608 + first;
      };
      notes = record { stages = noted_plan [] plan.stages notes; room = room };
      calls = replicate places NotCalled;
      owed = replicate places (Some no_value);
      wanted = replicate places None;
      wants = [];
      of = Rest;
      asked = None;
      words = 0;
      is_stale = true;
      retry = 0;
      fault = None;
      is_flow = is_flow;
      is_closed = false;
    }

-- with room for so many stages more: none of their functions was called, and nobody waits for them
abbrev pub roomier : Part → ℕ → Part
roomier p more =
    record p {
      row = record p.row { replica = with_more p.row.replica more };
      notes = record p.notes { room = p.notes.room + more };
      calls = p.calls ++ replicate more NotCalled;
      owed = p.owed ++ replicate more (Some no_value);
      wanted = p.wanted ++ replicate more None;
    }

-- ---- questions

-- the question that is due: nothing while one is open, behind a fault, or before its moment; else the put that is under way, as it is; else
-- what stands behind all that was seen
abbrev pub question_of : Part → ℕ → Option Question
question_of p now =
    cond (is_some p.asked || is_some p.fault || nat_lt now p.retry) None (
    cond (nat_lt 0 (length p.row.put)) (Some (Put (seen_by p))) (cond (p.is_stale || nat_lt (seen_by p) p.words) (Some (Read (seen_by p))) None))

-- a put may be planned: none is under way, no question is open, nothing is wrong, all is seen that the store has told of, and it is time
pub record MayPlan (p : Part) (now : ℕ) : Type 0 where
  pub none : p.row.put ≡ []
  pub asked : p.asked ≡ None
  pub sound : p.fault ≡ None
  pub fresh : p.is_stale ≡ false
  pub all_seen : p.words ≤ seen_by p
  pub time : p.retry ≤ now

abbrev pub IsRead : Option Question → Type 0
IsRead (Some (Read at)) = Unit {0}
IsRead asked = ⊥

abbrev pub IsPut : Option Question → Type 0
IsPut (Some (Put at)) = Unit {0}
IsPut asked = ⊥

abbrev pub IsClose : Option Question → Type 0
IsClose (Some (Close at)) = Unit {0}
IsClose asked = ⊥

-- 20 milliseconds later
abbrev pub later : ℕ → ℕ
later now = min (now + 20) 18446744073709551615
