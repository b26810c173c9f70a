-- What drawing gives, and of which state.
use Rattle.std.specs.Prelude.{◌≡◌, Result, Ok, Err, IsOk}
use Rattle.cf_script_reading.specs.declared.fault.ReadingFault.{ReadingFault}
use Rattle.cf_script_reading.specs.Scripts.{Script, opening}
use Rattle.cf_model.specs.States.{State, start}
use Rattle.cf_text.specs.declared.fault.ScriptFault.{ScriptFault}
use Rattle.cf_text.specs.declared.fault.ScriptFault.TheVariants as faults
use Rattle.cf_text.specs.Faults.{fault_of_reading}
use Rattle.cf_script.specs.Reports.{after_steps}

-- the state in which a script's steps leave the graph of its plan, whose outcomes are those of the report
abbrev pub after_script : Script → State
after_script s = after_steps s.functions (start (opening s)) s.steps

-- Why no picture is drawn: memory was refused, or the bytes are no script, and then the fault is the one that a run tells.
abbrev pub PictureRefuses : Result Script ReadingFault → ScriptFault → Type 0
PictureRefuses said faults.NoMemory = Unit {0}
PictureRefuses said fault = (e : ReadingFault) × (said ≡ Err e) × (fault ≡ fault_of_reading e)

-- what drawing gives for what the bytes say: a text where they are a script, of which nothing more is said here
abbrev pub Draws : {A : Type 0} → Result Script ReadingFault → Result A ScriptFault → Type 0
Draws said (Ok text) = IsOk said
Draws said (Err fault) = PictureRefuses said fault
