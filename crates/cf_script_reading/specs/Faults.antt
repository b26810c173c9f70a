-- The names of the parts of a script.
use Rattle.std.specs.Prelude.{ℕ, List, ◌++◌, Option, Some, None, codes}
use Rattle.std.specs.Fmt.{decimal}
use Rattle.cf_script_reading.specs.declared.fault.Part.{Part}
use Rattle.cf_script_reading.specs.declared.fault.Part.TheVariants as parts

abbrev pub part_name : Part → List ℕ
part_name parts.Top = codes "top"
part_name parts.Version = codes "cf"
part_name parts.Room = codes "room"
part_name parts.Stages = codes "stages"
part_name parts.Limits = codes "limits"
part_name parts.Steps = codes "steps"
part_name (parts.Stage k) = codes "stage"
part_name (parts.Limit k) = codes "limit"

-- the position of a stage or of a limit
abbrev pub part_position : Part → Option ℕ
part_position (parts.Stage k) = Some k
part_position (parts.Limit k) = Some k
part_position part = None

-- a name with the position behind it, if there is one
abbrev pub with_position : List ℕ → Option ℕ → List ℕ
with_position name (Some k) = name ++ codes " " ++ decimal k
with_position name None = name

abbrev pub part_text : Part → List ℕ
part_text part = with_position (part_name part) (part_position part)
