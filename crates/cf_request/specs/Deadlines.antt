-- Moments by which stages have to be settled.
use Rattle.std.specs.Prelude.{◌≡◌, ◌⊎◌, ℕ, ◌<◌, ◌≤◌, true, false, List, [], ◌∷◌, ◌++◌, All, drop, length, max, not, take}
use Rattle.std.specs.List.{filter}
use Rattle.std.specs.List.Sorted.{IsNonDecreasingBy}
use Rattle.cf_model.specs.declared.stage.Stage.{Stage}
use Rattle.cf_model.specs.Events.{limit_outcome}
use Rattle.cf_model.specs.States.{State}
use Rattle.cf_request.specs.Relays.{NoneBehind}
use Rattle.cf_request.specs.Telling.{is_settled_in}
use Rattle.cf_request.specs.declared.deadlines.Deadline.{Deadline}
use Rattle.cf_request.specs.declared.joins.Join.{Join}
use Rattle.cf_request.specs.declared.settling.Due.{Due}

-- none comes before one that stands in front of it
abbrev pub AreInOrder : List Deadline → Type 0
AreInOrder deadlines = IsNonDecreasingBy (λ d. d.moment) deadlines

-- the stages that they name are there, and they stand in the order in which they come
pub record AreSet (s : State) (deadlines : List Deadline) : Type 0 where
  pub there : All (λ d. d.stage < length s.plan.stages) deadlines
  pub in_order : AreInOrder deadlines

-- no stage that has one is open
abbrev pub NoneOpen : List Deadline → List Stage → Type 0
NoneOpen deadlines stages = All (λ e. is_settled_in stages e.stage ≡ true) deadlines

-- each stage that has one is open
abbrev pub AllOpen : List Deadline → List Stage → Type 0
AllOpen deadlines stages = All (λ e. is_settled_in stages e.stage ≡ false) deadlines

-- the first of those whose stage is open
pub record IsNextOpen (deadlines : List Deadline) (stages : List Stage) (d : Deadline) : Type 0 where
  pub front : List Deadline
  pub back : List Deadline
  pub is : deadlines ≡ front ++ d ∷ back
  pub settled : NoneOpen front stages
  pub waits : is_settled_in stages d.stage ≡ false

-- what is told of it: one that lies before the last moment is due at once, so it is told with that moment
pub record IsNextDue (last : ℕ) (deadlines : List Deadline) (stages : List Stage) (told : Deadline) : Type 0 where
  pub deadline : Deadline
  pub next : IsNextOpen deadlines stages deadline
  pub is : told ≡ record deadline { moment = max deadline.moment last }

-- no stage is open that has one up to a moment
abbrev pub NoneOverdue : ℕ → List Deadline → List Stage → Type 0
NoneOverdue moment deadlines stages = All (λ e. e.moment ≤ moment → is_settled_in stages e.stage ≡ true) deadlines

-- of these, so many come up to a moment
pub record AreCome (moment : ℕ) (deadlines : List Deadline) (count : ℕ) : Type 0 where
  pub within : count ≤ length deadlines
  pub before : All (λ d. d.moment ≤ moment) (take count deadlines)
  pub behind : All (λ d. moment < d.moment) (drop count deadlines)

-- the next deadline, whose moment has come
pub record IsOverdue (moment : ℕ) (deadlines : List Deadline) (s : State) (d : Due) : Type 0 where
  pub deadline : Deadline
  pub next : IsNextOpen deadlines s.stages deadline
  pub come : deadline.moment ≤ moment
  pub stage : d.stage ≡ deadline.stage
  pub outcome : d.outcome ≡ limit_outcome deadline.kind

-- some of settled stages are left out
abbrev pub Forgets : List Stage → List Deadline → List Deadline → Type 0
Forgets stages [] new = new ≡ []
Forgets stages (d ∷ old) new =
    ((rest : List Deadline) × (new ≡ d ∷ rest) × Forgets stages old rest) ⊎ ((is_settled_in stages d.stage ≡ true) × Forgets stages old new)

-- a new one stands behind all that come up to its moment, and before all that come later
pub record IsPutAmong (d : Deadline) (old new : List Deadline) : Type 0 where
  pub front : List Deadline
  pub back : List Deadline
  pub was : old ≡ front ++ back
  pub is : new ≡ front ++ d ∷ back
  pub before : All (λ e. e.moment ≤ d.moment) front
  pub behind : All (λ e. d.moment < e.moment) back

-- and some of settled stages may be left out
pub record Sets (stages : List Stage) (d : Deadline) (old new : List Deadline) : Type 0 where
  pub kept : List Deadline
  pub forgets : Forgets stages old kept
  pub put : IsPutAmong d kept new

-- neither a relay nor a deadline is left
abbrev pub NoneLeft : List Join → ℕ → List Deadline → List Stage → Type 0
NoneLeft follows moment deadlines stages = NoneBehind follows stages × NoneOverdue moment deadlines stages

-- ---- parts of it

-- those of open stages
abbrev pub open_of : List Stage → List Deadline → List Deadline
open_of stages deadlines = filter (λ d. not (is_settled_in stages d.stage)) deadlines
