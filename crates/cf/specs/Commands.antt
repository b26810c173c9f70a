-- What the program does for a command.
use Rattle.std.specs.Prelude.{◌≡◌, ℕ, List, Option, Result, Ok, Err}
use Rattle.cf_command.specs.declared.command.Command.{Command}
use Rattle.cf_command.specs.declared.command.Command.TheVariants.{Run, Race}
use Rattle.cf_text.specs.declared.fault.ScriptFault.{ScriptFault}
use Rattle.cf_script.specs.Printing.{Given, Prints}
use Rattle.cf_script.specs.Races.{RaceGives}
use Rattle.cf_script.specs.Runs.{RunGives}

-- what an input may give: to `run` what a run gives, and to `race` what a race with so many workers gives
abbrev pub CommandGives : Command → List ℕ → Given → Type 0
CommandGives Run input = RunGives input
CommandGives (Race workers) input = RaceGives workers input

-- the status to end with: 0 after a report, 1 after a fault
abbrev pub status_of : Result (Unit {0}) ScriptFault → ℕ
status_of (Ok done) = 0
status_of (Err fault) = 1

-- What the input gives to the command is printed, and the status tells whether that was a report.
pub record CarriesOut (command : Command) (input : List ℕ) (old new : Option (List ℕ)) (status : ℕ) : Type 0 where
  pub answer : Result (Unit {0}) ScriptFault
  pub prints : Prints (CommandGives command input) answer old new
  pub told : status ≡ status_of answer
