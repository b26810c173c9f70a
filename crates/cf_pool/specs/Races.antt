-- What a race does and leaves.
use Rattle.std.specs.Prelude.{◌≡◌, ℕ, ◌+◌, ◌*◌, ◌<◌, ◌≤◌, true, Some, List, [], ◌∷◌, ◌++◌, length}
use Rattle.cf_forms.specs.Plans.{Planned, IsBuilt, with_room}
use Rattle.std.specs.List.{All}
use Rattle.cf_model.specs.declared.events.Event.{Event}
use Rattle.cf_model.specs.declared.events.Event.TheVariants.{Claim as Claims, Finish as Finishes}
use Rattle.cf_model.specs.States.{State, start, outcome_at}
use Rattle.cf_model.specs.Events.{answered, state_after}
use Rattle.cf_model.specs.Calls.{is_from_outside, who_of}
use Rattle.cf_model.specs.Ranges.{EventsFit}
use Rattle.cf_desk.specs.declared.sizes.DeskSizes.{DeskSizes}
use Rattle.cf_desk.specs.Faults.{AttachFits}
use Rattle.cf_desk.specs.Views.{Desk}
use Rattle.cf_forms.specs.declared.forms.Args.{Args}
use Rattle.cf_pool.specs.declared.races.RaceFault.{RaceFault}
use Rattle.cf_pool.specs.declared.races.RaceFault.TheVariants.{Size, NoMemory}
use Rattle.cf_pool.specs.declared.races.RaceTerms.{RaceTerms}
use Rattle.cf_forms.specs.Meanings.{Meanings}
use Rattle.cf_pool.specs.Answering.{Answers, MayAnswer, as_meant}
use Rattle.cf_expr.specs.Expressions.{expr}
use Rattle.cf_expr.specs.Histories.{Grants, IsPlain, IsPlainPlan, IsQuiet, grants_after, granted_with, nothing_granted}

-- how many words the log of a race has, of whose stages there may be so many: one more than its events can be
abbrev pub log_words : ℕ → ℕ → ℕ → ℕ
log_words steps stages workers = steps + stages * (workers + 2) + 1

-- how many functions a race knows: as many as stages can name
abbrev pub race_functions : ℕ
race_functions = 65536

-- the plan of a race, with its room, and how many words its log has
abbrev pub race_plan : RaceTerms → Planned
race_plan terms = with_room terms.plan terms.room

abbrev pub race_words : RaceTerms → ℕ
race_words terms = log_words (length terms.steps.now) (length terms.plan.stages + terms.room) terms.workers

-- the sizes of the desk of a race with so many steps, stages and workers
abbrev pub AreRaceSizes : ℕ → ℕ → ℕ → DeskSizes → Type 0
AreRaceSizes steps stages workers sizes =
    (sizes.callers ≡ workers + 1) × (sizes.log ≡ log_words steps stages workers) × (sizes.calls ≡ steps + 2 * stages + 1)

-- a desk of these sizes was opened for a race
abbrev pub IsRaceDesk : RaceTerms → DeskSizes → Desk → Type 0
IsRaceDesk terms sizes d =
    (d.setting ≡ record { plan = race_plan terms; callers = sizes.callers; functions = race_functions }) × (d.words ≡ sizes.log)

-- a step: caller 0 completes, fails or cancels a stage, attaches one, or tells a moment
abbrev pub IsStep : Event → Type 0
IsStep e = (is_from_outside e ≡ true) × AttachFits race_functions e

-- the steps of a race over a plan, each of which fits the graph as those before it leave it
abbrev pub AreSteps : Planned → List Event → Type 0
AreSteps plan steps = All IsStep steps × EventsFit (start plan) steps

-- the plan as the steps leave it
abbrev pub plan_after : Planned → List Event → Planned
plan_after plan steps = (state_after (start plan) steps).plan

-- a claim, or a finish with what the stage's function may answer to the arguments that its caller was granted last
abbrev pub IsWorkEvent : Answers → Grants → State → Event → Type 0
IsWorkEvent answers granted s (Claims who i) = Unit {0}
IsWorkEvent answers granted s (Finishes who i answer) =
    (args : Args) × (granted who i ≡ Some args) × MayAnswer answers s.plan.stages i args answer
IsWorkEvent answers granted s event = ⊥

-- each of these events is work where it stands
abbrev pub IsWorkHistory : Answers → Grants → State → List Event → Type 0
IsWorkHistory answers granted s [] = Unit {0}
IsWorkHistory answers granted s (e ∷ events) =
    IsWorkEvent answers granted s e × IsWorkHistory answers (granted_with granted e ((answered s e).0)) ((answered s e).1) events

-- an event of caller 0 or of one of so many workers, whose numbers begin with 1
abbrev pub IsByWorker : ℕ → Event → Type 0
IsByWorker workers e = who_of e ≤ workers

-- The state's plan is what the steps leave, which was built, and the state comes after a history that begins with the steps, goes on
-- with work alone, by no more callers than so many workers, and leaves nothing ready or claimed.
pub record IsRaced (answers : Answers) (plan : Planned) (steps : List Event) (workers : ℕ) (s : State) : Type 0 where
  pub of_plan : s.plan ≡ plan_after plan steps
  pub built : IsBuilt s.plan
  pub work : List Event
  pub done : IsWorkHistory answers (grants_after nothing_granted (start plan) steps) (state_after (start plan) steps) work
  pub by : All (IsByWorker workers) work
  pub state : s ≡ state_after (start plan) (steps ++ work)
  pub quiet : IsQuiet s

-- However many workers there were and whatever they did first, a race of a plain plan with plain steps ends as the expressions say.
abbrev pub RacedIsExpression : Type 0
RacedIsExpression =
    (plan : Planned) (steps : List Event) (meanings : Meanings) (workers : ℕ) (s : State) (i : ℕ) →
    let grown = plan_after plan steps in
    IsPlainPlan grown → IsPlain meanings nothing_granted (start plan) steps → IsRaced (as_meant meanings) plan steps workers s →
    i < length grown.stages → outcome_at s i ≡ expr grown steps meanings i

-- So two races that begin with the same plain steps end alike.
abbrev pub RacesEndAlike : Type 0
RacesEndAlike =
    (plan : Planned) (steps : List Event) (meanings : Meanings) (few many : ℕ) (s r : State) (i : ℕ) →
    let grown = plan_after plan steps in
    IsPlainPlan grown → IsPlain meanings nothing_granted (start plan) steps → IsRaced (as_meant meanings) plan steps few s → IsRaced (as_meant meanings) plan steps many r →
    i < length grown.stages → outcome_at s i ≡ outcome_at r i

-- why there is no race
abbrev pub IsDueToRefuse : ℕ → RaceFault → Type 0
IsDueToRefuse words Size = 65535 < words
IsDueToRefuse words NoMemory = words ≤ 65535
