-- A stage that is kept as settled is seen so, whatever waits for treatment.
use Rattle.std.proofs.Common.{◌≡◌, ℕ, ◌∷◌, ◌++◌, [], List, Some, None, Option, suc, zero, true, refl, ap}
use Rattle.std.specs.Prelude.{is_some, option_and_then, slice_get}
use Rattle.cf_outcome.specs.declared.outcome.Outcome.{Outcome}
use Rattle.cf_forms.specs.Plans.{PlannedStage}
use Rattle.cf_model.specs.declared.stage.Stage.{Stage}
use Rattle.cf_model.specs.declared.stage.Stage.TheVariants.{Pending, Ready, Claimed, Linked, Settled}
use Rattle.cf_core.specs.declared.kept.KeptStage.{KeptStage}
use Rattle.cf_core.specs.declared.stages.Stages.{Stages}
use Rattle.cf_model.specs.States.{outcome_in, outcome_of}
use Rattle.cf_core.specs.Keeping.Treatment.{all_treated, stages_of, treated, treated_by}
use Rattle.cf_core.specs.Keeping.Sound.{kept_at}
use Rattle.cf_core.specs.Keeping.SoundStages.{settled_view_of}

-- its treatment leaves it as it is
treated-settled : (below : List KeptStage) (p : PlannedStage) (stage : Stage) (step : ℕ) (o : Outcome) → outcome_of stage ≡ Some o → outcome_of ((treated_by below p stage step).stage) ≡ Some o
treated-settled below p Pending step o e = cc
treated-settled below p (Ready args) step o e = cc
treated-settled below p Claimed step o e = cc
treated-settled below p (Linked j) step o e = cc
treated-settled below p (Settled old) step o e = e

all_treated-settled : (below : List KeptStage) (plan : List PlannedStage) (kept : List KeptStage) (i : ℕ) (o : Outcome) → outcome_of ((kept_at kept i).stage) ≡ Some o → outcome_in (stages_of (all_treated below plan kept)) i ≡ Some o
all_treated-settled below [] [] i o e = cc
all_treated-settled below (p ∷ plan) [] i o e = cc
all_treated-settled below [] (k ∷ kept) zero o e = e
all_treated-settled below [] (k ∷ kept) (suc i) o e = all_treated-settled below [] kept i o e
all_treated-settled below (p ∷ plan) (k ∷ kept) zero o e = treated-settled below p k.stage k.step o e
all_treated-settled below (p ∷ plan) (k ∷ kept) (suc i) o e = all_treated-settled (below ++ treated below p k ∷ []) plan kept i o e

-- an outcome that is there
pub some_there : (x : Option Outcome) → is_some x ≡ true → (o : Outcome) × (x ≡ Some o)
some_there None e = cc
some_there (Some o) e = (o, refl)

settled_stage : (stage : Stage) (o : Outcome) → outcome_of stage ≡ Some o → stage ≡ Settled o
settled_stage Pending o e = cc
settled_stage (Ready args) o e = cc
settled_stage Claimed o e = cc
settled_stage (Linked j) o e = cc
settled_stage (Settled old) o e = cc

settled_there : (x : Option Stage) (o : Outcome) → option_and_then outcome_of x ≡ Some o → x ≡ Some (Settled o)
settled_there None o e = cc
settled_there (Some stage) o e = ap (λ y. Some y) (settled_stage stage o e)

pub told_settled : (plan : List PlannedStage) (s : Stages) (i : ℕ) (o : Outcome) → outcome_of ((kept_at s.kept.items i).stage) ≡ Some o → outcome_in (settled_view_of plan s) i ≡ Some o
told_settled plan s i o e = all_treated-settled [] plan s.kept.items i o e

pub told_settled_stage : (plan : List PlannedStage) (s : Stages) (i : ℕ) (o : Outcome) → outcome_of ((kept_at s.kept.items i).stage) ≡ Some o → slice_get (settled_view_of plan s) i ≡ Some (Settled o)
told_settled_stage plan s i o e = settled_there (slice_get (settled_view_of plan s) i) o (told_settled plan s i o e)
