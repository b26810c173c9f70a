-- Stages at a place: their plan, their new states and the outcomes below them.
use Rattle.std.proofs.Common.{◌≡◌, ◌≢◌, ℕ, ◌<◌, ◌∷◌, ◌++◌, [], List, None, Some, length, zero, suc, arith, ap, ◌∙◌, refl, set, take, get_or, append_assoc, append-nil}
use Rattle.std.specs.Prelude.{slice_get}
use Rattle.std.proofs.lemmas.Option.{slice_get-get_or}
use Rattle.cf_outcome.specs.declared.outcome.Outcome.{Outcome}
use Rattle.cf_outcome.specs.declared.outcome.Outcome.TheVariants.{Value as Gives, Fault}
use Rattle.cf_forms.specs.declared.forms.Due.TheVariants.{Waits}
use Rattle.cf_forms.specs.declared.forms.Form.{Form}
use Rattle.cf_forms.specs.declared.forms.Form.TheVariants.{Handle, WhenComplete, Exceptionally, AnyOf, ExceptionallyCompose}
use Rattle.cf_forms.specs.Forms.{due_one}
use Rattle.cf_forms.specs.Plans.{PlannedStage, form_at, sources_at}
use Rattle.cf_model.specs.declared.stage.Stage.{Stage}
use Rattle.cf_model.specs.declared.stage.Stage.TheVariants.{Settled}
use Rattle.cf_model.specs.States.{State, after, next_of, new_states, outcome_at, outcome_in, stages_after}

-- the form and the sources of a stage of the plan
pub form_at-within : (plan : List PlannedStage) (i : ℕ) (p : PlannedStage) → i < length plan → form_at plan i ≡ (get_or plan i p).form
form_at-within plan i p l = rw (slice_get-get_or plan i p l) refl

pub sources_at-within : (plan : List PlannedStage) (i : ℕ) (p : PlannedStage) → i < length plan → sources_at plan i ≡ (get_or plan i p).sources
sources_at-within plan i p l = rw (slice_get-get_or plan i p l) refl

-- a new state, by those below it
pub new_states-at : (below : List Stage) (plan : List PlannedStage) (stages : List Stage) (i : ℕ) (p : PlannedStage) (s : Stage) → slice_get plan i ≡ Some p → slice_get stages i ≡ Some s →
    slice_get (new_states below plan stages) i ≡ Some (next_of (below ++ take i (new_states below plan stages)) p.form p.sources s)
new_states-at below [] stages i p s ep es = cc
new_states-at below (p0 ∷ plan) [] i p s ep es = cc
new_states-at below (p0 ∷ plan) (s0 ∷ stages) zero p s ep es =
    let same_p : p ≡ p0 = cc in
    let same_s : s ≡ s0 = cc in
    rw (append-nil, same_p, same_s) refl
new_states-at below (p0 ∷ plan) (s0 ∷ stages) (suc i) p s ep es =
    let new = next_of below p0.form p0.sources s0 in
    let rest = new_states (below ++ new ∷ []) plan stages in
    new_states-at (below ++ new ∷ []) plan stages i p s ep es
    ∙ ap (λ b. Some (next_of b p.form p.sources s)) (append_assoc below (new ∷ []) (take i rest))

-- the outcomes of the stages below one
pub outcome_in-take : (xs : List Stage) (i j : ℕ) → j < i → outcome_in (take i xs) j ≡ outcome_in xs j
outcome_in-take xs zero j l = absurd (omega arith)
outcome_in-take [] (suc i) j l = refl
outcome_in-take (x ∷ xs) (suc i) zero l = refl
outcome_in-take (x ∷ xs) (suc i) (suc j) l = outcome_in-take xs i j (omega arith)

-- a stage that isn't settled is settled
pub after-unsettled : (s : State) (i : ℕ) (o : Outcome) → outcome_at s i ≡ None → after s i o ≡ record s { stages = new_states [] s.plan.stages (set s.stages i (Settled o)) }
after-unsettled s i o none = ap (λ y. record s { stages = stages_after y s.plan.stages s.stages i o }) none

-- a source that has settled decides a form that takes one
pub due_one-decides : (form : Form) (o : Outcome) → due_one form o ≢ Waits
due_one-decides Handle o e = cc
due_one-decides WhenComplete o e = cc
due_one-decides AnyOf o e = cc
due_one-decides Exceptionally (Gives v) e = cc
due_one-decides Exceptionally (Fault cause wrapped) e = cc
due_one-decides ExceptionallyCompose (Gives v) e = cc
due_one-decides ExceptionallyCompose (Fault cause wrapped) e = cc
due_one-decides form (Gives v) e = cc
due_one-decides form (Fault cause wrapped) e = cc

-- a place that isn't written
pub slice_get-set_other : {X : Type 0} (xs : List X) (i j : ℕ) (y : X) → j ≢ i → slice_get (set xs i y) j ≡ slice_get xs j
slice_get-set_other [] i j y ne = refl
slice_get-set_other (x ∷ xs) zero zero y ne = absurd (ne refl)
slice_get-set_other (x ∷ xs) zero (suc j) y ne = refl
slice_get-set_other (x ∷ xs) (suc i) zero y ne = refl
slice_get-set_other (x ∷ xs) (suc i) (suc j) y ne = slice_get-set_other xs i j y (λ e. ne (ap suc e))
