-- The versions of scripts, and the room that one asks for.
use Rattle.std.specs.Prelude.{ℕ, ℤ, pos, Option, Some, None, option_and_then, codes, if◌then◌else◌}
use Rattle.std.specs.Ordering.{int_eq}
use Rattle.serde_json.specs.Data.{Data}
use Rattle.serde_json.specs.Find.{get}
use Rattle.cf_script_reading.specs.declared.version.Version.{Version}
use Rattle.cf_script_reading.specs.declared.version.Version.TheVariants.{One, Two, Three}
use Rattle.cf_script_reading.specs.Parts.{up_to, whole}

-- the version with a number
abbrev pub version_numbered : ℤ → Option Version
version_numbered z = if int_eq z (pos 1) then Some One else (if int_eq z (pos 2) then Some Two else (if int_eq z (pos 3) then Some Three else None))

-- the version of a script
abbrev pub version_of : Data → Option Version
version_of d = option_and_then version_numbered (option_and_then whole (get (codes "cf") d))

-- For how many stages that its steps attach a script asks for room: none where it says nothing of them, and in version 1
-- whatever it says.
abbrev pub room_said : Version → Option Data → Option ℕ
room_said One said = Some 0
room_said Two None = Some 0
room_said Two (Some d) = up_to 4096 d
room_said Three None = Some 0
room_said Three (Some d) = up_to 4096 d
