-- What a script is read for, and the steps that it may have then.
use Rattle.std.specs.Prelude.{◌≡◌, Bool, true, false}
use Rattle.cf_model.specs.Calls.{is_from_outside}
use Rattle.cf_script_reading.specs.declared.purpose.Purpose.{Purpose}
use Rattle.cf_script_reading.specs.declared.purpose.Purpose.TheVariants.{Run, Race}
use Rattle.cf_script_reading.specs.declared.script.Step.{Step}
use Rattle.cf_script_reading.specs.declared.script.Step.TheVariants.{Does}

-- a race takes the calls that come from outside: the rest is the workers' own
abbrev pub takes_in_race : Step → Bool
takes_in_race (Does e) = is_from_outside e
takes_in_race step = false

abbrev pub IsForRace : Step → Type 0
IsForRace step = takes_in_race step ≡ true

-- a run takes every step
abbrev pub takes : Purpose → Step → Bool
takes Run step = true
takes Race step = takes_in_race step

abbrev pub IsTaken : Purpose → Step → Type 0
IsTaken purpose step = takes purpose step ≡ true
