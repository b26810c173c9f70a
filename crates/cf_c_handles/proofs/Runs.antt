-- From what a run answers and prints to what C gets of it.
use Rattle.std.proofs.Common.{◌≡◌, ◌∙◌, ap, [], ℕ, List, Option, Some, Result, Ok, Err, IfSome, refl, subst, sym}
use Rattle.cf_script_reading.specs.declared.fault.ReadingFault.{ReadingFault}
use Rattle.cf_script_reading.specs.Reading.{reading}
use Rattle.cf_script_reading.specs.Scripts.{Script}
use Rattle.cf_text.specs.Faults.{fault_line, fault_of_reading}
use Rattle.cf_script.specs.Printing.{MayGive, Prints}
use Rattle.cf_script.specs.Reports.{report}
use Rattle.cf_script.specs.Runs.{IsReport, IsTooLargeToRun, RunGives}
use Rattle.cf_text.specs.declared.fault.ScriptFault.{ScriptFault}
use Rattle.cf_text.specs.declared.fault.ScriptFault.TheVariants as faults
use Rattle.cf_c_handles.specs.Codes.{number_of}
use Rattle.cf_c_handles.specs.Scripts.{IsRun, code_of_run, code_printed, printed}
use Rattle.cf_c_handles.specs.declared.code.Code.TheVariants.{BadScript}

abbrev IsPrinted : Result Script ReadingFault → List ℕ → ℕ → Type 0
IsPrinted said text code = (code ≡ code_printed said) × (text ≡ printed said)

report_printed : (said : Result Script ReadingFault) (script : Script) (given text : List ℕ) → said ≡ Ok script → given ≡ report script → text ≡ given → IsPrinted said text 0
report_printed said script given text is reported whole = rw is (refl, whole ∙ reported)

line_printed : (said : Result Script ReadingFault) (e : ReadingFault) (fault : ScriptFault) (text : List ℕ) → said ≡ Err e → fault ≡ fault_of_reading e → text ≡ fault_line fault → IsPrinted said text (number_of BadScript)
line_printed said e fault text is of whole = rw is (refl, whole ∙ ap fault_line of)

-- a run whose text is whole has printed what its bytes give
pub run_printed : (said : Result Script ReadingFault) (ran : Result (Unit {0}) ScriptFault) (text : List ℕ) → Prints (MayGive said IsReport IsTooLargeToRun) ran (Some []) (Some text) → IfSome (code_of_run ran) (IsPrinted said text)
run_printed said (Ok done) text h = report_printed said h.1.0 h.0 text h.1.1 h.1.2 h.2
run_printed said (Err faults.Write) text h = tt
run_printed said (Err faults.NoMemory) text h = tt
run_printed said (Err faults.Read) text h = tt
run_printed said (Err faults.RaceSize) text h = absurd h.0.2
run_printed said (Err faults.TooLong) text h = line_printed said h.0.0 faults.TooLong text h.0.1 h.0.2 h.1
run_printed said (Err faults.NotJson) text h = line_printed said h.0.0 faults.NotJson text h.0.1 h.0.2 h.1
run_printed said (Err (faults.Shape p)) text h = line_printed said h.0.0 (faults.Shape p) text h.0.1 h.0.2 h.1
run_printed said (Err (faults.Plan p k)) text h = line_printed said h.0.0 (faults.Plan p k) text h.0.1 h.0.2 h.1
run_printed said (Err (faults.Function k)) text h = line_printed said h.0.0 (faults.Function k) text h.0.1 h.0.2 h.1
run_printed said (Err (faults.Step k)) text h = line_printed said h.0.0 (faults.Step k) text h.0.1 h.0.2 h.1

-- the same of the bytes that were read, where nothing was printed before
pub run_is : (bytes input had text : List ℕ) (ran : Result (Unit {0}) ScriptFault) (code : Option ℕ) → input ≡ bytes → had ≡ [] → code ≡ code_of_run ran → Prints (RunGives input) ran (Some had) (Some text) → IfSome code (IsRun bytes text)
run_is bytes input had text ran code same none is h =
    rw is (rw (sym same) (run_printed (reading input) ran text (subst (λ (old : List ℕ). Prints (RunGives input) ran (Some old) (Some text)) none h)))
