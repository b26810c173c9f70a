-- Sums over lists with one element written, and what is kept of a stage.
use Rattle.std.proofs.Common.{◌≡◌, ℕ, ◌+◌, ◌<◌, ◌≤◌, ◌∷◌, [], List, Some, length, suc, zero, arith, ap, refl, set}
use Rattle.std.specs.Prelude.{slice_get, unwrap_or}
use Rattle.std.specs.List.{sum_by}
use Rattle.std.proofs.lemmas.List.Sums.{sum_by-cons}
use Rattle.cf_forms.specs.Plans.{PlannedStage}
use Rattle.cf_model.specs.declared.stage.Stage.TheVariants.{Pending}
use Rattle.cf_core.specs.declared.kept.KeptStage.{KeptStage}
use Rattle.cf_core.specs.Keeping.Treatment.{StepsUpTo}
use Rattle.cf_core.specs.Keeping.Links.{list_at}
use Rattle.cf_core.specs.Keeping.Sound.{kept_at, marks_of, marks_from}

pub sum_by-set_at : {X : Type 0} (f : X → ℕ) (xs : List X) (i : ℕ) (old new : X) → slice_get xs i ≡ Some old → sum_by f (set xs i new) + f old ≡ sum_by f xs + f new
sum_by-set_at f [] i old new e = cc
sum_by-set_at f (x ∷ xs) zero old new e =
    let same : f x ≡ f old = (let s : x ≡ old = cc in ap f s) in
    let h = sum_by-cons f new xs in
    let k = sum_by-cons f x xs in
    omega (arith, h, k, same)
sum_by-set_at f (x ∷ xs) (suc i) old new e =
    let h = sum_by-cons f x (set xs i new) in
    let k = sum_by-cons f x xs in
    let rest = sum_by-set_at f xs i old new e in
    omega (arith, h, k, rest)

-- a list that is emptied, whether it is there or not
pub emptied_sum : (links : List (List ℕ)) (d : ℕ) → sum_by length (set links d []) + length (list_at links d) ≡ sum_by length links
emptied_sum [] d = refl
emptied_sum (x ∷ links) zero =
    let h = sum_by-cons {X = List ℕ} length [] links in
    let k = sum_by-cons {X = List ℕ} length x links in
    let none : length {A = ℕ} [] ≡ 0 = refl in
    omega (arith, h, k, none)
emptied_sum (x ∷ links) (suc d) =
    let h = sum_by-cons {X = List ℕ} length x (set links d []) in
    let k = sum_by-cons {X = List ℕ} length x links in
    let rest = emptied_sum links d in
    omega (arith, h, k, rest)

pub list_in_sum : (links : List (List ℕ)) (d : ℕ) → length (list_at links d) ≤ sum_by length links
list_in_sum links d = let h = emptied_sum links d in omega (arith, h)

pub marks_from-set : (plan : List PlannedStage) (n : ℕ) (kept : List KeptStage) (d : ℕ) (old new : KeptStage) → slice_get kept d ≡ Some old →
    marks_from plan n (set kept d new) + marks_of plan (n + d) old.stage ≡ marks_from plan n kept + marks_of plan (n + d) new.stage
marks_from-set plan n [] d old new e = cc
marks_from-set plan n (k ∷ kept) zero old new e =
    let here : n + 0 ≡ n = omega arith in
    let same : k ≡ old = cc in
    rw (here, same) (omega arith)
marks_from-set plan n (k ∷ kept) (suc d) old new e =
    let rest = marks_from-set plan (n + 1) kept d old new e in
    let next : (n + 1) + d ≡ n + suc d = omega arith in
    let rest' = rw next at rest in
    omega (arith, rest')

-- ---- stages that are there

pub kept_there : (kept : List KeptStage) (d : ℕ) → d < length kept → slice_get kept d ≡ Some (kept_at kept d)
kept_there [] d l = absurd (omega arith)
kept_there (k ∷ kept) zero l = refl
kept_there (k ∷ kept) (suc d) l = kept_there kept d (omega arith)

pub kept_is : (kept : List KeptStage) (d : ℕ) (k : KeptStage) → slice_get kept d ≡ Some k → kept_at kept d ≡ k
kept_is kept d k e = ap (λ x. unwrap_or x (record { stage = Pending; step = 0 })) e

pub list_there : (links : List (List ℕ)) (d : ℕ) → d < length links → slice_get links d ≡ Some (list_at links d)
list_there [] d l = absurd (omega arith)
list_there (x ∷ links) zero l = refl
list_there (x ∷ links) (suc d) l = list_there links d (omega arith)

-- ---- steps

pub StepsUpTo-set : (n : ℕ) (kept : List KeptStage) (d : ℕ) (new : KeptStage) → StepsUpTo n kept → new.step ≤ n → StepsUpTo n (set kept d new)
StepsUpTo-set n [] d new h l = tt
StepsUpTo-set n (k ∷ kept) zero new h l = (l, h.1)
StepsUpTo-set n (k ∷ kept) (suc d) new h l = (h.0, StepsUpTo-set n kept d new h.1 l)

pub StepsUpTo-le : (n m : ℕ) (kept : List KeptStage) → n ≤ m → StepsUpTo n kept → StepsUpTo m kept
StepsUpTo-le n m [] l h = tt
StepsUpTo-le n m (k ∷ kept) l h = (omega (arith, h.0), StepsUpTo-le n m kept l h.1)

pub StepsUpTo-at : (n : ℕ) (kept : List KeptStage) (d : ℕ) (k : KeptStage) → StepsUpTo n kept → slice_get kept d ≡ Some k → k.step ≤ n
StepsUpTo-at n [] d k h e = cc
StepsUpTo-at n (x ∷ kept) zero k h e = let same : x ≡ k = cc in let s = ap (λ (y : KeptStage). y.step) same in omega (arith, h.0, s)
StepsUpTo-at n (x ∷ kept) (suc d) k h e = StepsUpTo-at n kept d k h.1 e
