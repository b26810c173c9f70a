-- Programs, and the situations that they come to.
use Rattle.std.specs.Prelude.{ℕ, Bool, false, List, Option, length, replicate, slice_get, unwrap_or, option_and_then}
use Rattle.cf_forms.specs.Plans.{Planned, with_room}
use Rattle.cf_model.specs.States.{State, start}
use Rattle.cf_explore.specs.declared.step.Step.{Step}
use Rattle.cf_explore.specs.declared.step.Place.{Place}
use Rattle.cf_explore.specs.declared.step.Hand.{Hand}
use Rattle.cf_explore.specs.declared.step.Hand.TheVariants.{Idle}

-- a plan with its room, each caller's steps, how many workers there are, and whether limits may fire at any time
pub record Programmed : Type 0 where
  pub plan : Planned
  pub callers : List (List Step)
  pub workers : ℕ
  pub free : Bool

-- the program of a plan with room for so many stages more
abbrev pub programmed : Planned → ℕ → List (List Step) → ℕ → Bool → Programmed
programmed plan room callers workers free =
    record { plan = with_room plan room; callers = callers; workers = workers; free = free }

-- the graph's state, how far each caller has come, what each worker has in hand, and for each stage whether its function was called
pub record Situated : Type 0 where
  pub state : State
  pub places : List Place
  pub hands : List Hand
  pub called : List Bool

abbrev pub situated : State → List Place → List Hand → List Bool → Situated
situated state places hands called = record { state = state; places = places; hands = hands; called = called }

-- the situation at the start
abbrev pub start_of : Programmed → Situated
start_of p =
    record {
      state = start p.plan;
      places = replicate (length p.callers) (record { at = 0; looks = 0 });
      hands = replicate p.workers Idle;
      called = replicate (length p.plan.stages) false;
    }

-- caller c's place, and worker w's hand
abbrev pub place_at : Situated → ℕ → Place
place_at s c = unwrap_or (slice_get s.places c) (record { at = 0; looks = 0 })

abbrev pub hand_at : Situated → ℕ → Hand
hand_at s w = unwrap_or (slice_get s.hands w) Idle

-- caller c's next step, if it has one
abbrev pub step_of : Programmed → Situated → ℕ → Option Step
step_of p s c = option_and_then (λ steps. slice_get steps (place_at s c).at) (slice_get p.callers c)
