-- What script bytes say, or the first fault in them.
use Rattle.std.specs.Prelude.{ℕ, List, [], length, Option, Some, None, option_and_then, Result, Ok, Err, nat_lt, codes, if◌then◌else◌}
use Rattle.std.specs.Str.{is_utf8}
use Rattle.serde_json.specs.Data.{Data, Items, no_items}
use Rattle.serde_json.specs.Find.{get, as_array, as_object}
use Rattle.serde_json.specs.Read.{read}
use Rattle.cf_script_reading.specs.declared.fault.Part.TheVariants as parts
use Rattle.cf_script_reading.specs.declared.fault.ReadingFault.{ReadingFault}
use Rattle.cf_script_reading.specs.declared.fault.ReadingFault.TheVariants as faults
use Rattle.cf_script_reading.specs.declared.purpose.Purpose.{Purpose}
use Rattle.cf_script_reading.specs.declared.purpose.Purpose.TheVariants.{Run, Race}
use Rattle.cf_forms.specs.Plans.{Planned, has_place, with_room}
use Rattle.cf_script_reading.specs.declared.func.Func.{Func}
use Rattle.cf_script_reading.specs.declared.version.Version.{Version}
use Rattle.cf_script_reading.specs.Scripts.{Script, extent_of}
use Rattle.cf_script_reading.specs.Checks.{◌>>=◌, ok_or, guard, fold_items}
use Rattle.cf_script_reading.specs.Versions.{version_of, room_said}
use Rattle.cf_script_reading.specs.Stages.{Drafted, stages_said}
use Rattle.cf_script_reading.specs.Limits.{limits_said}
use Rattle.cf_script_reading.specs.ReadingProgress.{Progress}
use Rattle.cf_script_reading.specs.Steps.{step_next}

-- the items of an array; none, where nothing is said
abbrev pub items_said : Option Data → Option Items
items_said None = Some no_items
items_said (Some d) = as_array d

-- The plan and the functions that the stages and the limits make: each stage, each limit, then whether there is place for the
-- room.
unfoldable pub drafted_of : Version → ℕ → Items → Items → Result Drafted ReadingFault
drafted_of version room stages limits = do
  drafted ← stages_said version stages
  plan ← limits_said drafted.plan limits
  place ← guard (has_place plan.stages room) (faults.Shape parts.Room)
  Ok (record { plan = plan; functions = drafted.functions })

-- what is said of a script before its steps are read
pub record Outline : Type 0 where
  pub version : Version
  pub plan : Planned
  pub room : ℕ
  pub functions : List Func
  -- the steps as they are written
  pub steps : Items

-- What a JSON value says of it: first the top, the version, the room and the three arrays, then the plan.
unfoldable pub outline_of : Data → Result Outline ReadingFault
outline_of d = do
  top ← ok_or (faults.Shape parts.Top) (as_object d)
  version ← ok_or (faults.Shape parts.Version) (version_of d)
  room ← ok_or (faults.Shape parts.Room) (room_said version (get (codes "room") d))
  stages ← ok_or (faults.Shape parts.Stages) (option_and_then as_array (get (codes "stages") d))
  limits ← ok_or (faults.Shape parts.Limits) (items_said (get (codes "limits") d))
  steps ← ok_or (faults.Shape parts.Steps) (items_said (get (codes "steps") d))
  drafted ← drafted_of version room stages limits
  Ok (record { version = version; plan = drafted.plan; room = room; functions = drafted.functions; steps = steps })

-- where reading its steps begins: no step is read, and the functions are those of its stages
abbrev pub progress_start : Outline → Progress
progress_start o = record { extent = extent_of (with_room o.plan o.room); functions = o.functions; steps = [] }

-- the script with the steps and the functions that were read
abbrev pub script_with : Outline → Progress → Script
script_with o progress = record { plan = o.plan; room = o.room; functions = progress.functions; steps = progress.steps }

-- the script, once each step is read for its purpose
abbrev pub with_steps : Purpose → Outline → Result Script ReadingFault
with_steps purpose o = fold_items (step_next purpose o.version) (progress_start o) o.steps >>= λ progress. Ok (script_with o progress)

-- what a JSON value says to what it is read for
unfoldable pub script_of : Purpose → Data → Result Script ReadingFault
script_of purpose d = outline_of d >>= with_steps purpose

-- what it says to a run
abbrev pub script_said : Data → Result Script ReadingFault
script_said d = script_of Run d

-- the JSON value of the bytes, where they are UTF-8 and JSON
abbrev pub json_of : List ℕ → Option Data
json_of bytes = if is_utf8 bytes then read bytes else None

-- What bytes say before their steps are read: there are at most 1,048,576 of them, they are JSON, and they say it.
unfoldable pub outline : List ℕ → Result Outline ReadingFault
outline bytes = if nat_lt 1048576 (length bytes) then Err faults.TooLong else ok_or faults.NotJson (json_of bytes) >>= outline_of

-- what they say to what they are read for
abbrev pub reading_for : Purpose → List ℕ → Result Script ReadingFault
reading_for purpose bytes = outline bytes >>= with_steps purpose

-- that is a run or a race
abbrev pub reading : List ℕ → Result Script ReadingFault
reading bytes = reading_for Run bytes

abbrev pub race_reading : List ℕ → Result Script ReadingFault
race_reading bytes = reading_for Race bytes
