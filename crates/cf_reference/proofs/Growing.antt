-- New states that are made one after another.
use Rattle.std.proofs.Common.{◌≡◌, ℕ, ◌+◌, ◌<◌, ◌∷◌, ◌++◌, [], List, length, refl, drop, get_or, add-one, append_assoc}
use Rattle.std.proofs.Math.Seq.{drop-cons}
use Rattle.cf_forms.specs.Plans.{PlannedStage}
use Rattle.cf_model.specs.declared.stage.Stage.{Stage}
use Rattle.cf_model.specs.States.{next_of, new_states}

-- one more stage
pub new_states-grow : (plan : List PlannedStage) (stages below : List Stage) (i : ℕ) (new : Stage) (p : PlannedStage) (s : Stage) → i < length plan → i < length stages →
    new ≡ next_of below (get_or plan i p).form (get_or plan i p).sources (get_or stages i s) →
    (below ++ new ∷ []) ++ new_states (below ++ new ∷ []) (drop (i + 1) plan) (drop (i + 1) stages)
    ≡ below ++ new_states below (drop i plan) (drop i stages)
new_states-grow plan stages below i new p s l m e =
    rw (add-one, drop-cons plan i p l, drop-cons stages i s m, append_assoc, e) refl
