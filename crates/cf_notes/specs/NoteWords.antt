-- Notes as numbers: `kind * 2^56 + stage * 2^32 + function`, and a moment.
use Rattle.std.specs.Prelude.{ℕ, ◌+◌, ◌*◌, ◌^◌, ◌<◌, ⊤, Bool, true, false, Option, Some, None, ◌==◌, if◌then◌else◌}
use Rattle.cf_notes.specs.declared.note.Note.{Note}
use Rattle.cf_notes.specs.declared.note.Note.TheVariants.{Nothing, Calls, Tries, Composes, Gives, Timer, Abandons}
use Rattle.cf_notes.specs.declared.words.NoteWords.{NoteWords}

-- the numbers of these fields
abbrev pub words_with : ℕ → ℕ → ℕ → ℕ → NoteWords
words_with kind stage function moment = record { what = kind * 2 ^ 56 + stage * 2 ^ 32 + function; moment = moment }

-- the kind of a timer
abbrev pub timer_kind : Bool → ℕ
timer_kind false = 5
timer_kind true = 6

-- the numbers of a note
abbrev pub words_of : Note → NoteWords
words_of Nothing = words_with 0 0 0 0
words_of (Calls function) = words_with 1 0 function 0
words_of (Tries of) = words_with 2 of 0 0
words_of (Composes function promise) = words_with 3 promise function 0
words_of (Gives stage) = words_with 4 stage 0 0
words_of (Timer stage moment gives) = words_with (timer_kind gives) stage 0 moment
words_of Abandons = words_with 7 0 0 0

-- a note whose numbers lie in their types' ranges
abbrev pub IsNote : Note → Type 0
IsNote Nothing = ⊤
IsNote (Calls function) = function < 2 ^ 32
IsNote (Tries of) = of < 2 ^ 16
IsNote (Composes function promise) = (function < 2 ^ 32) × (promise < 2 ^ 16)
IsNote (Gives stage) = stage < 2 ^ 16
IsNote (Timer stage moment gives) = (stage < 2 ^ 16) × (moment < 2 ^ 64)
IsNote Abandons = ⊤

-- the note of a kind with these fields, if there is such a kind
abbrev pub note_with : ℕ → ℕ → ℕ → ℕ → Option Note
note_with kind stage function moment =
    if kind == 0 then Some Nothing
    else (if kind == 1 then Some (Calls function)
    else (if kind == 2 then Some (Tries stage)
    else (if kind == 3 then Some (Composes function stage)
    else (if kind == 4 then Some (Gives stage)
    else (if kind == 5 then Some (Timer stage moment false)
    else (if kind == 6 then Some (Timer stage moment true)
    else (if kind == 7 then Some Abandons
    else None)))))))
