-- Steady stages, one by one.
use Rattle.std.proofs.Common.{◌≡◌, ◌≢◌, ℕ, ◌<◌, ◌∷◌, ◌++◌, [], List, Some, Contains, suc, zero, arith, ap, sym, ◌∙◌, refl, set, map, take, append_assoc, append-nil}
use Rattle.std.specs.Prelude.{slice_get, option_and_then}
use Rattle.cf_forms.specs.Plans.{PlannedStage}
use Rattle.cf_model.proofs.StateLemmas.{slice_get-set_other}
use Rattle.cf_model.specs.declared.stage.Stage.{Stage}
use Rattle.cf_model.specs.declared.stage.Stage.TheVariants.{Pending, Ready, Claimed, Linked, Settled}
use Rattle.cf_core.specs.declared.kept.KeptStage.{KeptStage}
use Rattle.cf_core.specs.Keeping.Treatment.{treated, treated_by, due_kept, late_due, dated_in, dated_of, linked_kept, IsSteady}
use Rattle.cf_core.specs.Keeping.Marks.{SteadyByStage, OthersWait}

steady : (below : List KeptStage) (plan : List PlannedStage) (kept : List KeptStage) (m : ℕ) →
    ((i : ℕ) (p : PlannedStage) (k : KeptStage) → i < m → slice_get plan i ≡ Some p → slice_get kept i ≡ Some k → treated (below ++ take i kept) p k ≡ k) →
    IsSteady below plan kept m
steady below plan kept zero h = refl
steady below [] kept (suc m) h = refl
steady below (p ∷ plan) [] (suc m) h = refl
steady below (p ∷ plan) (k ∷ kept) (suc m) h =
    let here : treated below p k ≡ k = ap (λ b. treated b p k) (sym (append-nil below)) ∙ h zero p k (omega arith) refl refl in
    let rest = steady (below ++ k ∷ []) plan kept m (λ i q l lt eq el.
    ap (λ b. treated b q l) (append_assoc below (k ∷ []) (take i kept)) ∙ h (suc i) q l (omega arith) eq el) in
    rw here (ap (λ r. k ∷ r) rest)

pub steady_by_stage : SteadyByStage
steady_by_stage plan kept m h = steady [] plan kept m h

pub dated_in-set : (kept : List KeptStage) (d j : ℕ) (new : KeptStage) → j ≢ d → dated_in (set kept d new) j ≡ dated_in kept j
dated_in-set kept d j new ne = ap (option_and_then dated_of) (slice_get-set_other kept d j new ne)

map-dated_in-set : (kept : List KeptStage) (d : ℕ) (new : KeptStage) (sources : List ℕ) → ((j : ℕ) → Contains sources j → j ≢ d) → map (dated_in (set kept d new)) sources ≡ map (dated_in kept) sources
map-dated_in-set kept d new [] h = refl
map-dated_in-set kept d new (j ∷ sources) h =
    let here = dated_in-set kept d j new (h j (0, omega arith, refl)) in
    let rest = map-dated_in-set kept d new sources (λ k c. h k (suc c.0, omega (arith, c.1), c.2)) in cc

pub treated-set : (kept : List KeptStage) (d : ℕ) (new : KeptStage) (p : PlannedStage) (stage : Stage) (step : ℕ) →
    ((j : ℕ) → Contains p.sources j → j ≢ d) → ((j : ℕ) → stage ≡ Linked j → j ≢ d) → treated_by (set kept d new) p stage step ≡ treated_by kept p stage step
treated-set kept d new p Pending step h l = ap (λ q. let due = late_due p.form q in due_kept due.0 due.1 step) (map-dated_in-set kept d new p.sources h)
treated-set kept d new p (Linked j) step h l = ap (linked_kept j step) (dated_in-set kept d j new (l j refl))
treated-set kept d new p (Ready args) step h l = refl
treated-set kept d new p Claimed step h l = refl
treated-set kept d new p (Settled o) step h l = refl

pub others_wait : OthersWait
others_wait kept d new p k h l w = treated-set kept d new p k.stage k.step h l ∙ w
