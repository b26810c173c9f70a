-- The step that attaches a stage.
use Rattle.std.specs.Prelude.{◌==◌, ◌&&◌, ℕ, List, length, Bool, true, Option, Some, None, option_map, is_some, nat_le, codes, if◌then◌else◌}
use Rattle.std.specs.Option.{option_map_or}
use Rattle.serde_json.specs.Data.{Data}
use Rattle.serde_json.specs.Find.{at, get, as_array}
use Rattle.cf_forms.specs.declared.forms.Form.{Form}
use Rattle.cf_forms.specs.declared.forms.Of.{Of}
use Rattle.cf_forms.specs.declared.forms.Of.TheVariants.{None as NoSource, One, Two}
use Rattle.cf_forms.specs.Plans.{fits_form, sources_of}
use Rattle.cf_model.specs.declared.events.Event.TheVariants.{Attach as Attaches}
use Rattle.cf_script_reading.specs.declared.func.Func.{Func}
use Rattle.cf_script_reading.specs.declared.script.Step.{Step}
use Rattle.cf_script_reading.specs.declared.script.Step.TheVariants.{Does}
use Rattle.cf_script_reading.specs.declared.version.Version.TheVariants as versions
use Rattle.cf_script_reading.specs.Funcs.{function_said}
use Rattle.cf_script_reading.specs.Parts.{◌>>=◌, elements, exactly, stage_at}
use Rattle.cf_script_reading.specs.Stages.{form_of, number_after}

-- the stages that an array names: at most two
unfoldable pub few_sources : ℕ → Data → Option Of
few_sources stages d =
    if elements d == 0 then Some NoSource
    else (if elements d == 1 then option_map One (stage_at stages 0 d)
    else (do
      here ← exactly 2 d
      a ← stage_at stages 0 d
      b ← stage_at stages 1 d
      Some (Two a b)))

-- the sources of an attached stage: none, where nothing is said of them
abbrev pub few_sources_said : ℕ → Option Data → Option Of
few_sources_said stages None = Some NoSource
few_sources_said stages (Some d) = as_array d >>= λ items. few_sources stages d

-- whether a stage may be attached so: it fits its form, and its function has a number that events have room for
abbrev pub can_attach : Form → Of → Option ℕ → Bool
can_attach form of number =
    fits_form form (length (sources_of of)) (is_some number) && option_map_or (λ n. nat_le n 4095) number true

-- what caller 0 attaches: the stage with its function's number, and the function
abbrev pub attaching : List Func → Form → Of → Option Func → Option (Step × Option Func)
attaching functions form of function =
    let number = number_after functions function in
    if can_attach form of number then Some (Does (Attaches 0 form of number), function) else None

-- An array of the word and a stage, written as the stages of a script are. Where anything is wrong with it there is no step.
unfoldable pub attach_said : ℕ → List Func → Data → Option (Step × Option Func)
attach_said stages functions d = do
  here ← exactly 2 d
  stage ← at 1 d
  form ← form_of versions.Two stage
  of ← few_sources_said stages (get (codes "of") stage)
  function ← function_said (get (codes "fn") stage)
  attaching functions form of function
