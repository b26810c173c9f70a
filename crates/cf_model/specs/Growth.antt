-- Laws of how plans grow.
use Rattle.std.specs.Prelude.{◌≡◌, ℕ, ◌+◌, ◌++◌, false, length, List, All}
use Rattle.cf_forms.specs.Plans.{IsGrowing, Planned, PlannedStage, reopened, with_room}
use Rattle.cf_model.specs.States.{State, start}
use Rattle.cf_model.specs.declared.events.Event.{Event}
use Rattle.cf_model.specs.Calls.{is_attach}
use Rattle.cf_model.specs.Events.{state_after}
use Rattle.cf_model.specs.Ranges.{EventsFit}

-- the plan has more stages behind those that it had, for which there was room, and there is a stage, and a claim or none, for each of them
pub record Grows (s r : State) : Type 0 where
  pub more : List PlannedStage
  pub stages : r.plan.stages ≡ s.plan.stages ++ more
  pub limits : r.plan.limits ≡ s.plan.limits
  pub opened : r.plan.opened ≡ s.plan.opened
  pub room : r.plan.room + length more ≡ s.plan.room
  pub all_stages : length r.stages ≡ length s.stages + length more
  pub all_claims : length r.claims ≡ length s.claims + length more

-- whatever events come, the plan grows
abbrev pub EventsGrowPlans : Type 0
EventsGrowPlans = (s : State) (events : List Event) → Grows s (state_after s events)

-- the plan stays, and there is a stage, and a claim or none, for as many as before
pub record SameShape (s r : State) : Type 0 where
  pub plan : r.plan ≡ s.plan
  pub all_stages : length r.stages ≡ length s.stages
  pub all_claims : length r.claims ≡ length s.claims

-- so it is where no event attaches a stage
abbrev pub OthersKeepShape : Type 0
OthersKeepShape = (s : State) (events : List Event) → All (λ e. is_attach e ≡ false) events → SameShape s (state_after s events)

-- a plan that is built, and within its bounds with all that there is room for, is so still once it has grown
abbrev pub GrownAreGrowing : Type 0
GrownAreGrowing = (s : State) (events : List Event) → IsGrowing s.plan → EventsFit s events → IsGrowing ((state_after s events).plan)

-- a plan that was opened with all its stages, and with room for more, is so again once it is reopened, whatever events came
abbrev pub GrownReopenAsTheyWere : Type 0
GrownReopenAsTheyWere =
    (plan : Planned) (room : ℕ) (events : List Event) →
    plan.opened ≡ length plan.stages → reopened ((state_after (start (with_room plan room)) events).plan) ≡ with_room plan room
