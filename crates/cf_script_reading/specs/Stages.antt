-- The stages of a script.
use Rattle.std.specs.Prelude.{ℕ, List, [], ◌∷◌, ◌++◌, length, Option, Some, None, option_map, option_and_then, Result, Ok, codes}
use Rattle.serde_json.specs.Data.{Data, Items}
use Rattle.serde_json.specs.Find.{get, as_str, as_array}
use Rattle.cf_forms.specs.declared.forms.Form.{Form}
use Rattle.cf_forms.specs.declared.forms.Form.TheVariants.{ExceptionallyCompose}
use Rattle.cf_forms.specs.Naming.{form_named}
use Rattle.cf_forms.specs.Plans.{Planned, PlannedStage, edges_of, plan_of, with_stage}
use Rattle.cf_plan.specs.Faults.{stage_fault}
use Rattle.cf_script_reading.specs.declared.fault.Part.TheVariants as parts
use Rattle.cf_script_reading.specs.declared.fault.ReadingFault.{ReadingFault}
use Rattle.cf_script_reading.specs.declared.fault.ReadingFault.TheVariants as faults
use Rattle.cf_script_reading.specs.declared.func.Func.{Func}
use Rattle.cf_script_reading.specs.declared.version.Version.{Version}
use Rattle.cf_script_reading.specs.declared.version.Version.TheVariants as versions
use Rattle.cf_script_reading.specs.Checks.{◌>>=◌, ok_or, planned_unless, fold_items}
use Rattle.cf_script_reading.specs.Parts.{up_to}
use Rattle.cf_script_reading.specs.Funcs.{function_said}

-- a form that scripts of a version have: exceptionallyCompose came with version 2
abbrev pub form_in : Version → Form → Option Form
form_in versions.One ExceptionallyCompose = None
form_in version form = Some form

-- the form of a stage
abbrev pub form_of : Version → Data → Option Form
form_of version d = option_and_then (form_in version) (option_and_then form_named (option_and_then as_str (get (codes "form") d)))

-- one source more, or the fault
abbrev pub source_next : ReadingFault → List ℕ → Data → Result (List ℕ) ReadingFault
source_next fault found d = ok_or fault (option_map (λ n. found ++ n ∷ []) (up_to 65535 d))

-- the sources of a stage: none, where nothing is said of them
abbrev pub sources_said : ReadingFault → Option Data → Result (List ℕ) ReadingFault
sources_said fault None = Ok []
sources_said fault (Some d) = ok_or fault (as_array d) >>= fold_items (source_next fault) []

-- the plan and the functions so far
pub record Drafted : Type 0 where
  pub plan : Planned
  pub functions : List Func

abbrev pub nothing_drafted : Drafted
nothing_drafted = record { plan = plan_of [] []; functions = [] }

-- a stage's function has the number of functions before it
abbrev pub number_after : List Func → Option Func → Option ℕ
number_after functions None = None
number_after functions (Some f) = Some (length functions)

abbrev pub with_function : List Func → Option Func → List Func
with_function functions None = functions
with_function functions (Some f) = functions ++ f ∷ []

-- the plan with one more stage, or why the builder refuses it
abbrev pub staged : Planned → PlannedStage → Result Planned ReadingFault
staged plan stage =
    let k = length plan.stages in
    planned_unless (stage_fault k (edges_of plan.stages) stage) k (with_stage plan stage)

-- The next stage: its form and its sources, then its function, then what the builder says of it. Its position is the
-- number of stages before it.
unfoldable pub stage_next : Version → Drafted → Data → Result Drafted ReadingFault
stage_next version drafted d = do
  let k = length drafted.plan.stages
  form ← ok_or (faults.Shape (parts.Stage k)) (form_of version d)
  sources ← sources_said (faults.Shape (parts.Stage k)) (get (codes "of") d)
  function ← ok_or (faults.Function k) (function_said (get (codes "fn") d))
  plan ← staged drafted.plan (record { form = form; sources = sources; function = number_after drafted.functions function })
  Ok (record { plan = plan; functions = with_function drafted.functions function })

-- what the stages of an array draft, in order
abbrev pub stages_said : Version → Items → Result Drafted ReadingFault
stages_said version stages = fold_items (stage_next version) nothing_drafted stages
