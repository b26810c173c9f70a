-- A sweep that stops at each function, and goes on.
use Rattle.std.specs.Prelude.{◌≡◌, ◌+◌, ◌<◌, ◌≤◌, ℕ, List, None, Some, Option, length, slice_get, unwrap_or}
use Rattle.cf_forms.specs.Plans.{IsGrowing, Planned, PlannedStage, function_at}
use Rattle.cf_forms.specs.declared.forms.Answer.{Answer}
use Rattle.cf_forms.specs.declared.forms.Args.{Args}
use Rattle.cf_model.specs.declared.stage.Stage.TheVariants.{Ready}
use Rattle.cf_model.specs.declared.events.Event.TheVariants.{Claim as Claims, Finish as Finishes}
use Rattle.cf_model.specs.Events.{answered}
use Rattle.cf_model.specs.States.{State, lowest_ready_of}
use Rattle.cf_core.specs.declared.graph.lending.Stop.{Stop}
use Rattle.cf_core.specs.declared.stages.Stages.{Stages}
use Rattle.cf_core.specs.Keeping.Graphs.{AreClaimed}
use Rattle.cf_core.specs.Keeping.SoundStages.{HasRoom}
use Rattle.cf_core.specs.Keeping.Sweeps.{AreSwept, IsReadyWith}

-- what a contract sees of one: the graph's state, how many turns were taken, how many stages are behind it, and the stage that it stands at, if any
pub record Sweep : Type 0 where
  pub state : State
  pub turns : ℕ
  pub behind : ℕ
  pub stands : Option ℕ

-- a sweep stops at the lowest ready stage, with its function and what that is to be called with
pub record StopsAt (s : State) (stop : Stop) : Type 0 where
  pub lowest : lowest_ready_of s ≡ Some stop.stage
  pub ready : slice_get s.stages stop.stage ≡ Some (Ready stop.args)
  pub function : stop.function ≡ function_at s.plan.stages stop.stage

-- the state once a stage is claimed and finished by a caller
abbrev pub served_by : ℕ → State → ℕ → Answer → State
served_by who s i answer = (answered ((answered s (Claims who i)).1) (Finishes who i answer)).1

-- the stage that a sweep stands at is claimed and finished, by whichever caller
abbrev pub LandsAnswer : Sweep → Answer → Sweep → Type 0
LandsAnswer old answer new = (who : ℕ) → new.state ≡ served_by who old.state (unwrap_or old.stands 0) answer

-- the stages behind a sweep are served, and the next one is ready with these arguments, if there are any
abbrev pub IsAt : List PlannedStage → ℕ → Option Args → Stages → Type 0
IsAt plan m None s = (m ≤ length plan) × AreSwept plan m m s
IsAt plan m (Some args) s = (m < length plan) × IsReadyWith plan m args s

-- and all else is as in a graph
pub record IsUnderWay (plan : Planned) (stages : Stages) (claims : List (Option ℕ)) (capacity used behind : ℕ) (args : Option Args) : Type 0 where
  pub growing : IsGrowing plan
  pub at : IsAt plan.stages behind args stages
  pub all_claims : length claims ≡ length plan.stages
  pub claimed : AreClaimed claims stages.kept.items
  pub stages_room : HasRoom plan.opened (length plan.stages + plan.room) stages
  pub claims_room : length plan.stages + plan.room ≤ capacity
  pub few_used : used ≤ length plan.limits
