-- What a run gives.
use Rattle.std.specs.Prelude.{◌≡◌, ℕ, List}
use Rattle.cf_script_reading.specs.Reading.{reading}
use Rattle.cf_script_reading.specs.Scripts.{Script}
use Rattle.cf_script.specs.Printing.{Given, MayGive}
use Rattle.cf_script.specs.Reports.{report}

-- a run prints the report of its script, and none is too large for it
abbrev pub IsReport : Script → List ℕ → Type 0
IsReport s text = text ≡ report s

abbrev pub IsTooLargeToRun : Script → Type 0
IsTooLargeToRun s = ⊥

-- what a run of this input may give
abbrev pub RunGives : List ℕ → Given → Type 0
RunGives input = MayGive (reading input) IsReport IsTooLargeToRun
