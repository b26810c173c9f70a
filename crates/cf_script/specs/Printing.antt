-- What is printed for an input, of a run and of a race alike.
use Rattle.std.specs.Prelude.{◌≡◌, ℕ, List, Option, Result, Ok, Err, IfSome, String, string_bytes}
use Rattle.std.specs.Io.KnownBytes.{Appends}
use Rattle.std.specs.declared.alloc.Global.{Global}
use Rattle.cf_outcome.specs.Output.{AppendsFront}
use Rattle.cf_script_reading.specs.declared.fault.ReadingFault.{ReadingFault}
use Rattle.cf_script_reading.specs.Scripts.{Script}
use Rattle.cf_text.specs.declared.fault.ScriptFault.{ScriptFault}
use Rattle.cf_text.specs.declared.fault.ScriptFault.TheVariants as faults
use Rattle.cf_text.specs.Faults.{fault_line, fault_of_reading}

-- the input is what the reader still had, where it tells that
abbrev pub IsInput : Option (List ℕ) → List ℕ → Type 0
IsInput remaining input = IfSome remaining (λ bytes. input ≡ bytes)

-- what an input gives: a text to print, or the fault that stands in its way
abbrev pub Given : Type 0
Given = Result (List ℕ) ScriptFault

-- the bytes of the text
abbrev pub given_by : Result (String Global) ScriptFault → Given
given_by (Ok text) = Ok (string_bytes text)
given_by (Err fault) = Err fault

-- what is printed for it: the text, or the line of the fault
abbrev pub lines_for : Given → List ℕ
lines_for (Ok text) = text
lines_for (Err fault) = fault_line fault

-- Why a script isn't done, by what its input says: that is this fault, or the script is too large. The reader and memory may
-- fail whatever it says, and a writer is never the cause.
abbrev pub ScriptRefuses : Result Script ReadingFault → (Script → Type 0) → ScriptFault → Type 0
ScriptRefuses said IsTooLarge faults.Read = Unit {0}
ScriptRefuses said IsTooLarge faults.NoMemory = Unit {0}
ScriptRefuses said IsTooLarge faults.Write = ⊥
ScriptRefuses said IsTooLarge faults.RaceSize = (s : Script) × (said ≡ Ok s) × IsTooLarge s
ScriptRefuses said IsTooLarge fault = (e : ReadingFault) × (said ≡ Err e) × (fault ≡ fault_of_reading e)

-- what an input may give, by what it says: a text of the script, or the fault for which it isn't done
abbrev pub MayGive : Result Script ReadingFault → (Script → List ℕ → Type 0) → (Script → Type 0) → Given → Type 0
MayGive said IsText IsTooLarge (Ok text) = (s : Script) × (said ≡ Ok s) × IsText s text
MayGive said IsText IsTooLarge (Err fault) = ScriptRefuses said IsTooLarge fault

-- What is answered, and what the writer gets, of an input that gives one of these. Ok: the text. A writer that failed: a front
-- of what was to be printed. Another fault: its line.
abbrev pub Prints : (Given → Type 0) → Result (Unit {0}) ScriptFault → Option (List ℕ) → Option (List ℕ) → Type 0
Prints Gives (Ok done) old new = (text : List ℕ) × Gives (Ok text) × Appends old new text
Prints Gives (Err faults.Write) old new = (given : Given) × Gives given × AppendsFront old new (lines_for given)
Prints Gives (Err fault) old new = Gives (Err fault) × Appends old new (fault_line fault)
