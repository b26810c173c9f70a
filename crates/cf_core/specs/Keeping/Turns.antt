-- Turns: each treats one stage and leaves the others as they are.
use Rattle.std.specs.Prelude.{◌≡◌, ℕ, ◌+◌, ◌<◌, ◌≤◌, List, [], ◌∷◌, length, slice_set, true, All}
use Rattle.cf_forms.specs.Plans.{PlannedStage, form_at, function_at, sources_at}
use Rattle.cf_model.specs.States.{is_ready}
use Rattle.cf_core.specs.declared.kept.KeptStage.{KeptStage}
use Rattle.cf_core.specs.declared.stages.Stages.{Stages}
use Rattle.cf_core.specs.Keeping.Treatment.{treated}
use Rattle.cf_core.specs.Keeping.Sound.{kept_at}

-- the planned stage at a place
abbrev pub planned_at : List PlannedStage → ℕ → PlannedStage
planned_at plan i = record { form = form_at plan i; sources = sources_at plan i; function = function_at plan i }

-- stage m is replaced by its treatment
abbrev pub turned : List PlannedStage → List KeptStage → ℕ → List KeptStage
turned plan kept m = slice_set kept m (treated kept (planned_at plan m) (kept_at kept m))

-- these stages are treated, one after another
abbrev pub turned_each : List PlannedStage → List KeptStage → List ℕ → List KeptStage
turned_each plan kept [] = kept
turned_each plan kept (m ∷ stages) = turned_each plan (turned plan kept m) stages

-- some stages up to stage d are treated, in one turn each
pub record TurnsUpTo (plan : List PlannedStage) (d : ℕ) (old new : Stages) : Type 0 where
  pub treated : List ℕ
  pub within : All (λ m. m ≤ d) treated
  pub kept : new.kept.items ≡ turned_each plan old.kept.items treated
  pub turns : new.turns ≡ old.turns + length treated

-- a stage is below all ready ones
abbrev pub IsBelowReady : List KeptStage → ℕ → Type 0
IsBelowReady kept m = (r : ℕ) → is_ready ((kept_at kept r).stage) ≡ true → m < r

-- each of these stages, when it is treated, is below all that are ready then
abbrev pub AreBelowReady : List PlannedStage → List KeptStage → List ℕ → Type 0
AreBelowReady plan kept [] = Unit {0}
AreBelowReady plan kept (m ∷ stages) = IsBelowReady kept m × AreBelowReady plan (turned plan kept m) stages

-- some stages below the lowest ready one are treated, in one turn each
pub record TurnsBelowReady (plan : List PlannedStage) (old new : Stages) : Type 0 where
  pub treated : List ℕ
  pub below : AreBelowReady plan old.kept.items treated
  pub kept : new.kept.items ≡ turned_each plan old.kept.items treated
  pub turns : new.turns ≡ old.turns + length treated
