-- The limits of a script.
use Rattle.std.specs.Prelude.{ℕ, List, length, Option, Some, None, option_map, option_and_then, Result, codes, if◌then◌else◌}
use Rattle.std.specs.Option.{option_map_or}
use Rattle.std.specs.Str.{bytes_eq}
use Rattle.serde_json.specs.Data.{Data, Items}
use Rattle.serde_json.specs.Find.{get, as_str}
use Rattle.cf_forms.specs.declared.limits.Limit.{Limit}
use Rattle.cf_forms.specs.declared.limits.LimitKind.{LimitKind}
use Rattle.cf_forms.specs.declared.limits.LimitKind.TheVariants.{Timeout, Give}
use Rattle.cf_forms.specs.Plans.{Planned, with_limit}
use Rattle.cf_plan.specs.Faults.{limit_fault}
use Rattle.cf_script_reading.specs.declared.fault.Part.TheVariants as parts
use Rattle.cf_script_reading.specs.declared.fault.ReadingFault.{ReadingFault}
use Rattle.cf_script_reading.specs.declared.fault.ReadingFault.TheVariants as faults
use Rattle.cf_script_reading.specs.Checks.{◌>>=◌, ok_or, planned_unless, fold_items}
use Rattle.cf_script_reading.specs.Parts.{up_to, value_of}

-- the whole number from 0 to most that is the member with a name
abbrev pub number_named : ℕ → List ℕ → Data → Option ℕ
number_named most name d = option_and_then (up_to most) (get name d)

-- the code of a timeout, which is 0 where none is said
abbrev pub timeout_code : Data → Option ℕ
timeout_code d = option_map_or (up_to 4294967295) (get (codes "code") d) (Some 0)

-- the kind with a name; a timeout's code or a value is said beside it
unfoldable pub kind_named : Data → List ℕ → Option LimitKind
kind_named d name =
    if bytes_eq name (codes "timeout") then option_map Timeout (timeout_code d)
    else (if bytes_eq name (codes "value") then option_map Give (option_and_then value_of (get (codes "value") d))
    else None)

-- the kind of a limit
abbrev pub kind_of : Data → Option LimitKind
kind_of d = option_and_then (kind_named d) (option_and_then as_str (get (codes "kind") d))

-- the plan with one more limit, or why the builder refuses it
abbrev pub limited : Planned → Limit → Result Planned ReadingFault
limited plan limit = planned_unless (limit_fault plan limit.stage) (length plan.limits) (with_limit plan limit)

-- The next limit: its stage, its moment and its kind, then what the builder says of it. Its position is the number of
-- limits before it.
unfoldable pub limit_next : Planned → Data → Result Planned ReadingFault
limit_next plan d = do
  let k = length plan.limits
  stage ← ok_or (faults.Shape (parts.Limit k)) (number_named 65535 (codes "stage") d)
  at ← ok_or (faults.Shape (parts.Limit k)) (number_named 4294967295 (codes "at") d)
  kind ← ok_or (faults.Shape (parts.Limit k)) (kind_of d)
  limited plan (record { stage = stage; at = at; kind = kind })

-- the plan with the limits of an array, in order
abbrev pub limits_said : Planned → Items → Result Planned ReadingFault
limits_said plan limits = fold_items limit_next plan limits
