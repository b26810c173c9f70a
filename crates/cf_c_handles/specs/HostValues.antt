-- What a host of a store is given, as C has it.
use Rattle.std.specs.Prelude.{◌≡◌, ◌≢◌, ◌⊎◌, ℕ, ◌==◌, Bool, true, false, Option, Some, None, Result, Ok, Err, List, Contains, map, if◌then◌else◌}
use Rattle.cf_due.specs.declared.acts.Act.{Act}
use Rattle.cf_due.specs.declared.acts.Act.TheVariants.{Complete, Fail, Cancel, Limit, Attach, Again}
use Rattle.cf_forms.specs.declared.forms.Form.{Form}
use Rattle.cf_forms.specs.declared.forms.Of.{Of}
use Rattle.cf_host.specs.declared.requests.Length.{Length}
use Rattle.cf_notes.specs.NoteWords.{IsNote, words_of}
use Rattle.cf_notes.specs.declared.note.Note.{Note}
use Rattle.cf_notes.specs.declared.wants.EndsWith.{EndsWith}
use Rattle.cf_notes.specs.declared.wants.EndsWith.TheVariants.{Gives, NoValue, Throws, Passes, Links}
use Rattle.cf_notes.specs.declared.wants.Source.{Source}
use Rattle.cf_notes.specs.declared.wants.Source.TheVariants as sources
use Rattle.cf_notes.specs.declared.wants.Want.{Want}
use Rattle.cf_notes.specs.declared.words.NoteWords.{NoteWords}
use Rattle.cf_row.specs.declared.entry.Entry.{Entry}
use Rattle.cf_watch.specs.declared.beat.Beat.{Beat}
use Rattle.cf_c_handles.specs.Plans.{form_of, sources_with}
use Rattle.cf_c_handles.specs.declared.code.Code.{Code}
use Rattle.cf_c_handles.specs.declared.code.Code.TheVariants.{NoMemory, NoNote, NoSuchNumber, WrongSourceCount}
use Rattle.cf_c_handles.specs.declared.values.host.CfHostActing.{CfHostActing}
use Rattle.cf_c_handles.specs.declared.values.host.rows.CfHostBeat.{CfHostBeat}
use Rattle.cf_c_handles.specs.declared.values.host.rows.CfHostLength.{CfHostLength}
use Rattle.cf_c_handles.specs.declared.values.host.rows.CfHostWant.{CfHostWant}
use Rattle.cf_c_handles.specs.declared.values.host.rows.CfNote.{CfNote}
use Rattle.cf_c_handles.specs.declared.values.host.rows.CfNoted.{CfNoted}

-- ---- acts

-- a function's number as notes have it, or none where it is the highest of its type
abbrev pub note_function : ℕ → Option ℕ
note_function function = if function == 4294967295 then None else Some function

-- the act that attaches a stage, or why there is none
abbrev pub attaching : Option Form → Option Of → Option ℕ → Result Act Code
attaching None of function = Err NoSuchNumber
attaching (Some form) None function = Err WrongSourceCount
attaching (Some form) (Some of) function = Ok (Attach form of function)

-- the act that C means, or why there is none
abbrev pub act_of : CfHostActing → Result Act Code
act_of a =
    if a.kind == 0 then Ok (Complete a.stage)
    else (if a.kind == 1 then Ok (Fail a.stage)
    else (if a.kind == 2 then Ok (Cancel a.stage false)
    else (if a.kind == 3 then Ok (Cancel a.stage true)
    else (if a.kind == 4 then Ok (Limit a.stage a.moment false)
    else (if a.kind == 5 then Ok (Limit a.stage a.moment true)
    else (if a.kind == 6 then attaching (form_of a.form) (sources_with a.sources a.first a.second) (note_function a.function)
    else (if a.kind == 7 then Ok (Again a.stage)
    else Err NoSuchNumber)))))))

-- what a function came to, or that no such end has the number
abbrev pub ends_of : ℕ → ℕ → ℕ → Result EndsWith Code
ends_of kind code stage =
    if kind == 0 then Ok Gives
    else (if kind == 1 then Ok NoValue
    else (if kind == 2 then Ok Throws
    else (if kind == 3 then Ok (Passes code)
    else (if kind == 4 then Ok (Links stage)
    else Err NoSuchNumber))))

-- ---- flags and notes

-- whether a number stands for yes
abbrev pub flag : ℕ → Bool
flag number = if number == 0 then false else true

-- the two numbers of a note
abbrev pub numbers_of : CfNote → NoteWords
numbers_of n = record { what = n.what; moment = n.moment }

-- they stand for a note, or for none
abbrev pub IsNoteOf : CfNote → Option Note → Type 0
IsNoteOf numbers (Some note) = words_of note ≡ numbers_of numbers
IsNoteOf numbers None = (note : Note) → IsNote note → words_of note ≢ numbers_of numbers

-- each of these stands for a note
abbrev pub AreNotes : List CfNote → List Note → Type 0
AreNotes numbers notes = map words_of notes ≡ map numbers_of numbers

-- one of them stands for none
pub record OneIsNone (numbers : List CfNote) : Type 0 where
  pub one : CfNote
  pub there : Contains numbers one
  pub none : IsNoteOf one None

-- why they aren't read
abbrev pub AreUnread : List CfNote → Code → Type 0
AreUnread numbers code = ((code ≡ NoNote) × OneIsNone numbers) ⊎ (code ≡ NoMemory)

-- ---- rows

abbrev pub note_in : CfNoted → CfNote
note_in row = row.note

abbrev pub entry_at : CfNoted → Entry
entry_at row = record { word = row.word; token = row.token }

abbrev pub beat_at : CfHostBeat → Beat
beat_at beat = record { session = beat.session; count = beat.count }

abbrev pub length_at : CfHostLength → Length
length_at it = record { request = it.request; words = it.words }

-- whose payload stands at a place: its number, and the stage
abbrev pub as_source : Source → ℕ × ℕ
as_source sources.Nothing = (0, 0)
as_source sources.Given = (1, 0)
as_source (sources.Ended stage) = (2, stage)
as_source (sources.Error stage) = (3, stage)
as_source (sources.Gone stage) = (4, stage)

abbrev pub as_note : NoteWords → CfNote
as_note words = record { what = words.what; moment = words.moment }

-- an entry that is to be put, for C
abbrev pub as_want : Entry → Want → CfHostWant
as_want x w = record {
  entry = record { word = x.word; token = x.token; note = as_note (words_of w.note) };
  source = (as_source w.source).0;
  stage = (as_source w.source).1;
}
