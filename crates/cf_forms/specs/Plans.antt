-- Plans: the stages in order, each with its form, its sources and its function's number, and the limits.
use Rattle.std.specs.Prelude.{◌≡◌, ℕ, ◌+◌, ◌-◌, ◌*◌, ◌<◌, ◌≤◌, ◌==◌, if◌then◌else◌, count_by, replicate, Bool, true, false, not, ◌&&◌, ◌||◌, Option, None, is_some, List, [], ◌∷◌, ◌++◌, length, nat_le, slice_get, take, All}
use Rattle.std.specs.List.{sum_by}
use Rattle.std.specs.Option.{option_map_or}
use Rattle.cf_forms.specs.declared.forms.Form.{Form}
use Rattle.cf_forms.specs.declared.forms.Form.TheVariants.{Source, Supply, RunAsync, Combine, AcceptBoth, RunBoth, ApplyEither, AcceptEither, RunEither, AllOf, AnyOf}
use Rattle.cf_forms.specs.declared.forms.Of.{Of}
use Rattle.cf_forms.specs.declared.forms.Of.TheVariants.{None as NoSource, One, Two}
use Rattle.cf_forms.specs.declared.limits.Limit.{Limit}
use Rattle.cf_forms.specs.Forms.{starts}

-- a stage as it was planned
pub record PlannedStage : Type 0 where
  pub form : Form
  pub sources : List ℕ
  pub function : Option ℕ

-- a plan: its stages and limits, with how many stages it was opened, and how many may still be attached to it
pub record Planned : Type 0 where
  pub stages : List PlannedStage
  pub limits : List Limit
  pub opened : ℕ
  pub room : ℕ

-- a plan as it is built: it is opened with all its stages, and has no room for more
abbrev pub plan_of : List PlannedStage → List Limit → Planned
plan_of stages limits = record { stages = stages; limits = limits; opened = length stages; room = 0 }

-- the plan with room for so many stages
abbrev pub with_room : Planned → ℕ → Planned
with_room plan room = record plan { room = room }

-- the plan with one more stage attached, for which there was room
abbrev pub and_stage : Planned → PlannedStage → Planned
and_stage plan new = record plan { stages = plan.stages ++ new ∷ []; room = plan.room - 1 }

-- the plan as it was opened
abbrev pub opening_of : Planned → Planned
opening_of plan = plan_of (take plan.opened plan.stages) plan.limits

-- the plan as it was opened, with its room free again
abbrev pub reopened : Planned → Planned
reopened plan = record plan { stages = take plan.opened plan.stages; room = plan.room + (length plan.stages - plan.opened) }

-- the form, the sources and the function of stage i
abbrev pub form_at : List PlannedStage → ℕ → Form
form_at stages i = option_map_or (λ (s : PlannedStage). s.form) (slice_get stages i) Source

abbrev pub sources_at : List PlannedStage → ℕ → List ℕ
sources_at stages i = option_map_or (λ (s : PlannedStage). s.sources) (slice_get stages i) []

abbrev pub function_at : List PlannedStage → ℕ → Option ℕ
function_at stages i = option_map_or (λ (s : PlannedStage). s.function) (slice_get stages i) None

-- how often a stage is named as a source
abbrev pub edges_of : List PlannedStage → ℕ
edges_of stages = sum_by (λ s. length s.sources) stages

-- whether there is place for so much room: so many stages more, of two sources each
abbrev pub has_place : List PlannedStage → ℕ → Bool
has_place stages room = nat_le (length stages + room) 4096 && nat_le (edges_of stages + 2 * room) 16384

-- each source is below the stage that names it, the first stage here being stage i
abbrev pub HasLowerSources : ℕ → List PlannedStage → Type 0
HasLowerSources i [] = Unit {0}
HasLowerSources i (s ∷ stages) = All (λ j. j < i) s.sources × HasLowerSources (i + 1) stages

-- whether a form takes this many sources
abbrev pub fits_count : Form → ℕ → Bool
fits_count Source n = n == 0
fits_count Supply n = n == 0
fits_count RunAsync n = n == 0
fits_count Combine n = n == 2
fits_count AcceptBoth n = n == 2
fits_count RunBoth n = n == 2
fits_count ApplyEither n = n == 2
fits_count AcceptEither n = n == 2
fits_count RunEither n = n == 2
fits_count AllOf n = true
fits_count AnyOf n = true
fits_count form n = n == 1

-- whether a stage of the form has a function
abbrev pub calls_function : Form → Bool
calls_function Source = false
calls_function AllOf = false
calls_function AnyOf = false
calls_function form = true

-- whether a stage of the form takes so many sources, and has a function where the form calls one, and only there
abbrev pub fits_form : Form → ℕ → Bool → Bool
fits_form form sources has_function =
    fits_count form sources && (has_function || not (calls_function form)) && (not has_function || calls_function form)

-- the sources of an attached stage, in the order of its arguments
abbrev pub sources_of : Of → List ℕ
sources_of NoSource = []
sources_of (One a) = a ∷ []
sources_of (Two a b) = a ∷ b ∷ []

-- a plan with so many stages has these sources
abbrev pub AreBelow : ℕ → Of → Type 0
AreBelow stages of = All (λ j. j < stages) (sources_of of)

-- a stage as it is attached
abbrev pub attached_stage : Form → Of → Option ℕ → PlannedStage
attached_stage form of function = record { form = form; sources = sources_of of; function = function }

-- the plan built with one more stage
abbrev pub with_stage : Planned → PlannedStage → Planned
with_stage plan new = plan_of (plan.stages ++ new ∷ []) plan.limits

-- how often these sources name stage i
abbrev pub mentions : ℕ → List ℕ → ℕ
mentions i sources = count_by (λ j. j == i) sources

-- the stages that name stage i as a source, in rising order, each once for each mention, the first stage here being stage k
abbrev pub dependents_from : ℕ → List PlannedStage → ℕ → List ℕ
dependents_from k [] i = []
dependents_from k (s ∷ stages) i = replicate (mentions i s.sources) k ++ dependents_from (k + 1) stages i

abbrev pub dependents_of : List PlannedStage → ℕ → List ℕ
dependents_of stages i = dependents_from 0 stages i

-- the stages that have something to take from the start on, in rising order, the first stage here being stage k
abbrev pub starts_from : ℕ → List PlannedStage → List ℕ
starts_from k [] = []
starts_from k (s ∷ stages) = if starts s.form s.sources then k ∷ starts_from (k + 1) stages else starts_from (k + 1) stages

abbrev pub starts_of : List PlannedStage → List ℕ
starts_of stages = starts_from 0 stages

-- no number is above one behind it
abbrev pub IsRising : List ℕ → Type 0
IsRising [] = Unit {0}
IsRising (x ∷ xs) = All (λ later. x ≤ later) xs × IsRising xs

-- limits in firing order, and one more: it stands behind all whose moment isn't later
abbrev pub with_limit_in_order : List Limit → Limit → List Limit
with_limit_in_order [] new = new ∷ []
with_limit_in_order (limit ∷ limits) new =
    if nat_le limit.at new.at then limit ∷ with_limit_in_order limits new else new ∷ limit ∷ limits

-- the plan built with one more limit
abbrev pub with_limit : Planned → Limit → Planned
with_limit plan new = plan_of plan.stages (with_limit_in_order plan.limits new)

-- no moment is later than that of a limit behind it
abbrev pub IsInFiringOrder : List Limit → Type 0
IsInFiringOrder [] = Unit {0}
IsInFiringOrder (limit ∷ limits) = All (λ (later : Limit). limit.at ≤ later.at) limits × IsInFiringOrder limits

-- what is true of every plan that was built
pub record IsBuilt (plan : Planned) : Type 0 where
  pub few_stages : length plan.stages ≤ 4096
  pub few_edges : edges_of plan.stages ≤ 16384
  pub few_limits : length plan.limits ≤ 4096
  pub lower : HasLowerSources 0 plan.stages
  pub fitting : All (λ (s : PlannedStage). fits_count s.form (length s.sources) ≡ true) plan.stages
  pub called : All (λ (s : PlannedStage). is_some s.function ≡ calls_function s.form) plan.stages
  pub named : All (λ (limit : Limit). limit.stage < length plan.stages) plan.limits
  pub in_order : IsInFiringOrder plan.limits

-- what is true of every plan that grows: it is built, and so will be what it grows to
pub record IsGrowing (plan : Planned) : Type 0 where
  pub built : IsBuilt plan
  pub opened : plan.opened ≤ length plan.stages
  pub few_stages : length plan.stages + plan.room ≤ 4096
  pub few_edges : edges_of plan.stages + 2 * plan.room ≤ 16384
