-- A write that changes no outcome.
use Rattle.std.proofs.Common.{◌≡◌, ℕ, ◌+◌, ◌<◌, length, arith, append_assoc, length-append, ◌∷◌, ◌++◌, [], List, None, suc, zero, ap, sym, ◌∙◌, refl, set, map}
use Rattle.std.specs.Option.{option_map}
use Rattle.std.proofs.lemmas.List.{map-set}
use Rattle.cf_forms.specs.Plans.{PlannedStage}
use Rattle.cf_model.specs.declared.stage.Stage.{Stage}
use Rattle.cf_model.specs.declared.stage.Stage.TheVariants.{Pending, Ready, Claimed, Linked, Settled}
use Rattle.cf_model.specs.States.{outcome_of, outcome_in}
use Rattle.cf_core.specs.declared.kept.KeptStage.{KeptStage}
use Rattle.cf_core.specs.Keeping.Treatment.{stages_of, all_treated, treated, treated_by, due_kept, late_due, dated_in, dated_of, linked_kept}
use Rattle.cf_core.specs.Keeping.Writes.{ClaimingIsAlone, LinkingIsAlone}

-- stage by stage the same outcomes
abbrev pub Alike : List KeptStage → List KeptStage → Type 0
Alike [] [] = Unit {0}
Alike (a ∷ old) (b ∷ new) = (dated_of b ≡ dated_of a) × Alike old new
Alike [] (b ∷ new) = ⊥
Alike (a ∷ old) [] = ⊥

Alike-push : (old new : List KeptStage) (a b : KeptStage) → Alike old new → dated_of b ≡ dated_of a → Alike (old ++ a ∷ []) (new ++ b ∷ [])
Alike-push [] [] a b g h = (h, tt)
Alike-push (x ∷ old) (y ∷ new) a b g h = (g.0, Alike-push old new a b g.1 h)
Alike-push [] (y ∷ new) a b g h = absurd g
Alike-push (x ∷ old) [] a b g h = absurd g

Alike-at : (old new : List KeptStage) (j : ℕ) → Alike old new → dated_in new j ≡ dated_in old j
Alike-at [] [] j g = refl
Alike-at (x ∷ old) (y ∷ new) zero g = g.0
Alike-at (x ∷ old) (y ∷ new) (suc j) g = Alike-at old new j g.1
Alike-at [] (y ∷ new) j g = absurd g
Alike-at (x ∷ old) [] j g = absurd g

Alike-map : (old new : List KeptStage) (sources : List ℕ) → Alike old new → map (dated_in new) sources ≡ map (dated_in old) sources
Alike-map old new [] g = refl
Alike-map old new (j ∷ sources) g =
    let here = Alike-at old new j g in
    let rest = Alike-map old new sources g in cc

pub treated-alike : (old new : List KeptStage) (p : PlannedStage) (stage : Stage) (step : ℕ) → Alike old new → treated_by new p stage step ≡ treated_by old p stage step
treated-alike old new p Pending step g = ap (λ q. let due = late_due p.form q in due_kept due.0 due.1 step) (Alike-map old new p.sources g)
treated-alike old new p (Linked j) step g = ap (linked_kept j step) (Alike-at old new j g)
treated-alike old new p (Ready args) step g = refl
treated-alike old new p Claimed step g = refl
treated-alike old new p (Settled o) step g = refl

all-alike : (old new : List KeptStage) (plan : List PlannedStage) (kept : List KeptStage) → Alike old new → all_treated new plan kept ≡ all_treated old plan kept
all-alike old new [] kept g = refl
all-alike old new (p ∷ plan) [] g = refl
all-alike old new (p ∷ plan) (k ∷ kept) g =
    let same = treated-alike old new p k.stage k.step g in
    let rest = all-alike (old ++ treated old p k ∷ []) (new ++ treated new p k ∷ []) plan kept (Alike-push old new (treated old p k) (treated new p k) g (ap dated_of same)) in cc

pub unsettled : (a b : KeptStage) → outcome_of a.stage ≡ None → outcome_of b.stage ≡ None → dated_of b ≡ dated_of a
unsettled a b e f = ap (option_map (λ o. (o, b.step))) f ∙ sym (ap (option_map (λ o. (o, a.step))) e)

claim : (old new : List KeptStage) (plan : List PlannedStage) (kept : List KeptStage) (d step : ℕ) → Alike old new → outcome_in (stages_of (all_treated old plan kept)) d ≡ None →
    stages_of (all_treated new plan (set kept d (record { stage = Claimed; step = step }))) ≡ set (stages_of (all_treated old plan kept)) d Claimed
claim old new [] kept d step g e = map-set (λ (k : KeptStage). k.stage) kept d (record { stage = Claimed; step = step })
claim old new (p ∷ plan) [] d step g e = refl
claim old new (p ∷ plan) (k ∷ kept) zero step g e =
    let a = treated old p k in
    let b : KeptStage = record { stage = Claimed; step = step } in
    ap (λ r. Claimed ∷ stages_of r) (all-alike (old ++ a ∷ []) (new ++ b ∷ []) plan kept (Alike-push old new a b g (unsettled a b e refl)))
claim old new (p ∷ plan) (k ∷ kept) (suc d) step g e =
    let a = treated old p k in
    let b = treated new p k in
    let same = treated-alike old new p k.stage k.step g in
    let rest = claim (old ++ a ∷ []) (new ++ b ∷ []) plan kept d step (Alike-push old new a b g (ap dated_of same)) e in
    ap (λ (x : KeptStage). x.stage ∷ stages_of (all_treated (new ++ b ∷ []) plan (set kept d (record { stage = Claimed; step = step })))) same
    ∙ ap (λ r. a.stage ∷ r) rest

pub claiming_is_alone : ClaimingIsAlone
claiming_is_alone plan kept d step e = claim [] [] plan kept d step tt e

-- ---- a link to a stage below that isn't settled

dated_in-below : (below more : List KeptStage) (j : ℕ) → j < length below → dated_in (below ++ more) j ≡ dated_in below j
dated_in-below [] more j l = absurd (omega arith)
dated_in-below (x ∷ below) more zero l = refl
dated_in-below (x ∷ below) more (suc j) l = dated_in-below below more j (omega arith)

link : (old new : List KeptStage) (plan : List PlannedStage) (kept : List KeptStage) (d j step : ℕ) → Alike old new → j < length old + d → outcome_in (stages_of (all_treated old plan kept)) d ≡ None →
    dated_in (old ++ all_treated old plan kept) j ≡ None →
    stages_of (all_treated new plan (set kept d (record { stage = Linked j; step = step }))) ≡ set (stages_of (all_treated old plan kept)) d (Linked j)
link old new [] kept d j step g l e u = map-set (λ (k : KeptStage). k.stage) kept d (record { stage = Linked j; step = step })
link old new (p ∷ plan) [] d j step g l e u = refl
link old new (p ∷ plan) (k ∷ kept) zero j step g l e u =
    let a = treated old p k in
    let b : KeptStage = record { stage = Linked j; step = step } in
    let none : dated_in new j ≡ None = Alike-at old new j g ∙ sym (dated_in-below old (a ∷ all_treated (old ++ a ∷ []) plan kept) j (omega arith)) ∙ u in
    let is : treated new p b ≡ b = ap (linked_kept j step) none in
    ap (λ (x : KeptStage). x.stage ∷ stages_of (all_treated (new ++ x ∷ []) plan kept)) is
    ∙ ap (λ r. Linked j ∷ stages_of r) (all-alike (old ++ a ∷ []) (new ++ b ∷ []) plan kept (Alike-push old new a b g (unsettled a b e refl)))
link old new (p ∷ plan) (k ∷ kept) (suc d) j step g l e u =
    let a = treated old p k in
    let b = treated new p k in
    let same = treated-alike old new p k.stage k.step g in
    let longer : length (old ++ a ∷ []) ≡ length old + 1 = length-append old (a ∷ []) in
    let still : dated_in ((old ++ a ∷ []) ++ all_treated (old ++ a ∷ []) plan kept) j ≡ None = ap (λ xs. dated_in xs j) (append_assoc old (a ∷ []) (all_treated (old ++ a ∷ []) plan kept)) ∙ u in
    let rest = link (old ++ a ∷ []) (new ++ b ∷ []) plan kept d j step (Alike-push old new a b g (ap dated_of same)) (omega (arith, longer)) e still in
    ap (λ (x : KeptStage). x.stage ∷ stages_of (all_treated (new ++ b ∷ []) plan (set kept d (record { stage = Linked j; step = step })))) same
    ∙ ap (λ r. a.stage ∷ r) rest

none_dated : (kept : List KeptStage) (j : ℕ) → outcome_in (stages_of kept) j ≡ None → dated_in kept j ≡ None
none_dated [] j e = refl
none_dated (k ∷ kept) zero e = ap (option_map (λ o. (o, k.step))) e
none_dated (k ∷ kept) (suc j) e = none_dated kept j e

pub linking_is_alone : LinkingIsAlone
linking_is_alone plan kept d j step l e u =
    let below : j < length {A = KeptStage} [] + d = omega arith in
    link [] [] plan kept d j step tt below e (none_dated (all_treated [] plan kept) j u)
