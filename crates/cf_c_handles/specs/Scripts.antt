-- What C gets of a script.
use Rattle.std.specs.Prelude.{◌≡◌, ℕ, ◌⊎◌, List, Option, Some, None, Result, Ok, Err}
use Rattle.cf_script_reading.specs.declared.fault.ReadingFault.{ReadingFault}
use Rattle.cf_script_reading.specs.Reading.{reading}
use Rattle.cf_script_reading.specs.Scripts.{Script}
use Rattle.cf_text.specs.Faults.{fault_line, fault_of_reading}
use Rattle.cf_script.specs.Reports.{report}
use Rattle.cf_text.specs.declared.fault.ScriptFault.{ScriptFault}
use Rattle.cf_text.specs.declared.fault.ScriptFault.TheVariants as faults
use Rattle.cf_c_handles.specs.Codes.{number_of}
use Rattle.cf_c_handles.specs.Texts.{GivesText}
use Rattle.cf_c_handles.specs.declared.code.Code.TheVariants.{BadScript, NoMemory}

-- what is printed of what bytes say: the report of the script, or the line of the fault
abbrev pub printed : Result Script ReadingFault → List ℕ
printed (Ok script) = report script
printed (Err fault) = fault_line (fault_of_reading fault)

abbrev pub code_printed : Result Script ReadingFault → ℕ
code_printed (Ok script) = 0
code_printed (Err fault) = number_of BadScript

-- C gets what is printed of these bytes; or memory is refused, and what C had stays
abbrev pub RunsScript : List ℕ → ℕ → List ℕ → List ℕ → ℕ → ℕ → Type 0
RunsScript bytes code old new had has =
    ((code ≡ code_printed (reading bytes)) × GivesText (printed (reading bytes)) old new has)
    ⊎ ((code ≡ number_of NoMemory) × (new ≡ old) × (has ≡ had))

-- the code of a run whose text is whole. A writer into memory fails for want of it alone, and a reader of memory never.
abbrev pub code_of_run : Result (Unit {0}) ScriptFault → Option ℕ
code_of_run (Ok done) = Some 0
code_of_run (Err faults.NoMemory) = None
code_of_run (Err faults.Write) = None
code_of_run (Err faults.Read) = None
code_of_run (Err fault) = Some (number_of BadScript)

-- a run whose text is whole: it is what is printed of these bytes
abbrev pub IsRun : List ℕ → List ℕ → ℕ → Type 0
IsRun bytes text code = (code ≡ code_printed (reading bytes)) × (text ≡ printed (reading bytes))
