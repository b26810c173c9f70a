-- A turn changes nothing.
use Rattle.std.proofs.Common.{◌≡◌, ℕ, ◌∷◌, ◌++◌, [], List, Option, Some, None, suc, zero, ap, sym, ◌∙◌, refl, take, set, map, append_assoc, append-nil}
use Rattle.std.specs.Prelude.{slice_get}
use Rattle.cf_outcome.specs.declared.outcome.Outcome.{Outcome}
use Rattle.cf_forms.specs.declared.forms.Due.{Due}
use Rattle.cf_forms.specs.declared.forms.Due.TheVariants.{Waits, Settles, Needs}
use Rattle.cf_forms.specs.Plans.{PlannedStage}
use Rattle.cf_model.specs.declared.stage.Stage.{Stage}
use Rattle.cf_model.specs.declared.stage.Stage.TheVariants.{Pending, Ready, Claimed, Linked, Settled}
use Rattle.cf_core.specs.declared.kept.KeptStage.{KeptStage}
use Rattle.cf_core.specs.Keeping.Treatment.{TurnsChangeNothing, IsSteady, all_treated, treated, treated_by, due_kept, late_due, dated_in, linked_kept}

-- to treat a stage twice is to treat it once
due_twice : (below : List KeptStage) (p : PlannedStage) (step : ℕ) (due : Due) (at : ℕ) → late_due p.form (map (dated_in below) p.sources) ≡ (due, at) →
    treated below p (due_kept due at step) ≡ due_kept due at step
due_twice below p step Waits at e = rw e refl
due_twice below p step (Settles o) at e = refl
due_twice below p step (Needs args) at e = refl

linked_twice : (below : List KeptStage) (p : PlannedStage) (j step : ℕ) (x : Option (Outcome × ℕ)) → dated_in below j ≡ x →
    treated below p (linked_kept j step x) ≡ linked_kept j step x
linked_twice below p j step None e = rw e refl
linked_twice below p j step (Some x) e = refl

pub stage_twice : (below : List KeptStage) (p : PlannedStage) (stage : Stage) (step : ℕ) → treated below p (treated_by below p stage step) ≡ treated_by below p stage step
stage_twice below p Pending step =
    let due = late_due p.form (map (dated_in below) p.sources) in due_twice below p step due.0 due.1 refl
stage_twice below p (Linked j) step = linked_twice below p j step (dated_in below j) refl
stage_twice below p (Ready args) step = refl
stage_twice below p Claimed step = refl
stage_twice below p (Settled o) step = refl

turn : (below : List KeptStage) (plan : List PlannedStage) (kept : List KeptStage) (m : ℕ) (p : PlannedStage) (k : KeptStage) →
    slice_get plan m ≡ Some p → slice_get kept m ≡ Some k → IsSteady below plan kept m →
    all_treated below plan (set kept m (treated (below ++ take m kept) p k)) ≡ all_treated below plan kept
turn below [] kept m p k ep ek q = cc
turn below (p0 ∷ plan) [] m p k ep ek q = refl
turn below (p0 ∷ plan) (k0 ∷ kept) zero p k ep ek q =
    let same_p : p ≡ p0 = cc in
    let same_k : k ≡ k0 = cc in
    let new = treated below p0 k0 in
    rw (append-nil, same_p, same_k, stage_twice below p0 k0.stage k0.step) refl
turn below (p0 ∷ plan) (k0 ∷ kept) (suc m) p k ep ek q =
    let new = treated below p0 k0 in
    let same : k0 ≡ new = cc in
    let rest : take m (all_treated (below ++ new ∷ []) plan kept) ≡ take m kept = cc in
    let ih = turn (below ++ new ∷ []) plan kept m p k ep ek rest in
    let e : (below ++ new ∷ []) ++ take m kept ≡ below ++ k0 ∷ take m kept =
    append_assoc below (new ∷ []) (take m kept) ∙ ap (λ x. below ++ x ∷ take m kept) (sym same) in
    ap (λ r. new ∷ r) (rw e at ih)

pub turns_change_nothing : TurnsChangeNothing
turns_change_nothing plan kept m p k ep ek q = turn [] plan kept m p k ep ek q
