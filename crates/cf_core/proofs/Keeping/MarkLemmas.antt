-- A stage is taken out of the list of linked stages, and marked.
use Rattle.std.proofs.Common.{◌≡◌, ◌≢◌, ℕ, ◌<◌, ◌∷◌, ◌++◌, [], List, Bool, true, false, cond, Some, None, is_some, length, suc, zero, arith, ap, sym, ◌∙◌, refl, set, drop, subst, All}
use Rattle.std.specs.Prelude.{reverse, slice_get, unwrap_or}
use Rattle.std.proofs.lemmas.List.{reverse-append}
use Rattle.std.proofs.lemmas.List.Elements.{All-head, All-tail}
use Rattle.cf_model.proofs.StateLemmas.{slice_get-set_other}
use Rattle.cf_core.specs.declared.kept.KeptStage.{KeptStage}
use Rattle.cf_core.specs.Keeping.Links.{list_at}
use Rattle.cf_core.specs.Keeping.Sound.{is_waiting, kept_at, mark_one, mark_all}

set-twice : {X : Type 0} (xs : List X) (i : ℕ) (a b : X) → set (set xs i a) i b ≡ set xs i b
set-twice [] i a b = refl
set-twice (x ∷ xs) zero a b = refl
set-twice (x ∷ xs) (suc i) a b = ap (λ r. x ∷ r) (set-twice xs i a b)

first_marked : (kept : List KeptStage) (stages : List ℕ) (marks : List Bool) (i : ℕ) → Some i ≡ slice_get stages 0 → mark_all kept (drop 1 stages) (mark_one kept i marks) ≡ mark_all kept stages marks
first_marked kept [] marks i e = cc
first_marked kept (j ∷ stages) marks i e = let same : i ≡ j = cc in ap (λ n. mark_all kept stages (mark_one kept n marks)) same

shorter : (stages : List ℕ) (i : ℕ) → Some i ≡ slice_get stages 0 → length (drop 1 stages) < length stages
shorter [] i e = cc
shorter (j ∷ stages) i e = omega arith

pub nothing_left : (stages : List ℕ) → None ≡ slice_get stages 0 → stages ≡ []
nothing_left [] e = refl
nothing_left (j ∷ stages) e = cc

pub none_first : (stages : List ℕ) → is_some (slice_get stages 0) ≡ false → stages ≡ []
none_first [] e = refl
none_first (j ∷ stages) e = cc

-- to empty a list that is empty changes nothing
pub empty_already : (lists : List (List ℕ)) (t : ℕ) → list_at lists t ≡ [] → lists ≡ set lists t []
empty_already [] t e = refl
empty_already (x ∷ lists) zero e = ap (λ xs. xs ∷ lists) e
empty_already (x ∷ lists) (suc t) e = ap (λ r. x ∷ r) (empty_already lists t e)

list_is : (lists : List (List ℕ)) (t : ℕ) → list_at (set lists t (drop 1 (list_at lists t))) t ≡ drop 1 (list_at lists t)
list_is [] t = refl
list_is (x ∷ lists) zero = refl
list_is (x ∷ lists) (suc t) = list_is lists t

pub pop_marks : (kept : List KeptStage) (lists new : List (List ℕ)) (t : ℕ) (marks : List Bool) (i : ℕ) → Some i ≡ slice_get (list_at lists t) 0 → new ≡ set lists t (drop 1 (list_at lists t)) →
    mark_all kept (list_at new t) (mark_one kept i marks) ≡ mark_all kept (list_at lists t) marks
pop_marks kept lists new t marks i e is =
    ap (λ xs. mark_all kept (list_at xs t) (mark_one kept i marks)) is
    ∙ ap (λ xs. mark_all kept xs (mark_one kept i marks)) (list_is lists t) ∙ first_marked kept (list_at lists t) marks i e

pub pop_empties : (lists new : List (List ℕ)) (t : ℕ) → new ≡ set lists t (drop 1 (list_at lists t)) → set new t [] ≡ set lists t []
pop_empties lists new t is = ap (λ xs. set xs t []) is ∙ set-twice lists t (drop 1 (list_at lists t)) []

-- the stages of a list that are left, and the first of them, are within the same bound
rest_within : (xs : List ℕ) (n : ℕ) → All (λ i. i < n) xs → All (λ i. i < n) (drop 1 xs)
rest_within [] n h = h
rest_within (x ∷ xs) n h = All-tail (λ i. i < n) x xs h

pub pop_within : (lists new : List (List ℕ)) (t n : ℕ) → new ≡ set lists t (drop 1 (list_at lists t)) → All (λ i. i < n) (list_at lists t) → All (λ i. i < n) (list_at new t)
pop_within lists new t n is h =
    subst (λ xs. All (λ i. i < n) xs) (sym (ap (λ xs. list_at xs t) is ∙ list_is lists t)) (rest_within (list_at lists t) n h)

pub first_within : (xs : List ℕ) (n i : ℕ) → Some i ≡ slice_get xs 0 → All (λ j. j < n) xs → i < n
first_within [] n i e h = cc
first_within (x ∷ xs) n i e h = let same : i ≡ x = cc in subst (λ j. j < n) (sym same) (All-head (λ j. j < n) x xs h)

-- the list of a stage, when another one is written
pub other_within : (lists new : List (List ℕ)) (t d n : ℕ) (xs : List ℕ) → new ≡ set lists t xs → d ≢ t → All (λ i. i < n) (list_at lists d) → All (λ i. i < n) (list_at new d)
other_within lists new t d n xs is ne h =
    subst (λ ys. All (λ i. i < n) ys) (sym (ap (λ ys. list_at ys d) is ∙ ap (λ x. unwrap_or x []) (slice_get-set_other lists t d xs ne))) h

-- ---- the order in which stages are marked doesn't matter

set-swap : {X : Type 0} (xs : List X) (i j : ℕ) (y : X) → set (set xs i y) j y ≡ set (set xs j y) i y
set-swap [] i j y = refl
set-swap (x ∷ xs) zero zero y = refl
set-swap (x ∷ xs) zero (suc j) y = refl
set-swap (x ∷ xs) (suc i) zero y = refl
set-swap (x ∷ xs) (suc i) (suc j) y = ap (λ r. x ∷ r) (set-swap xs i j y)

mark_two : (a b : Bool) (marks : List Bool) (i j : ℕ) → cond b (set (cond a (set marks i true) marks) j true) (cond a (set marks i true) marks) ≡ cond a (set (cond b (set marks j true) marks) i true) (cond b (set marks j true) marks)
mark_two true true marks i j = set-swap marks i j true
mark_two true false marks i j = refl
mark_two false true marks i j = refl
mark_two false false marks i j = refl

mark_last : (kept : List KeptStage) (stages : List ℕ) (i : ℕ) (marks : List Bool) → mark_all kept stages (mark_one kept i marks) ≡ mark_one kept i (mark_all kept stages marks)
mark_last kept [] i marks = refl
mark_last kept (j ∷ stages) i marks =
    ap (mark_all kept stages) (mark_two (is_waiting ((kept_at kept i).stage)) (is_waiting ((kept_at kept j).stage)) marks i j)
    ∙ mark_last kept stages i (mark_one kept j marks)

mark_all-append : (kept : List KeptStage) (xs ys : List ℕ) (marks : List Bool) → mark_all kept (xs ++ ys) marks ≡ mark_all kept ys (mark_all kept xs marks)
mark_all-append kept [] ys marks = refl
mark_all-append kept (x ∷ xs) ys marks = mark_all-append kept xs ys (mark_one kept x marks)

mark_all-reverse : (kept : List KeptStage) (stages : List ℕ) (marks : List Bool) → mark_all kept (reverse stages) marks ≡ mark_all kept stages marks
mark_all-reverse kept [] marks = refl
mark_all-reverse kept (i ∷ stages) marks =
    ap (λ xs. mark_all kept xs marks) (reverse-append (i ∷ []) stages) ∙ mark_all-append kept (reverse stages) (i ∷ []) marks
    ∙ ap (mark_one kept i) (mark_all-reverse kept stages marks) ∙ sym (mark_last kept stages i marks)

-- those that stand first, and the others the other way round
pub mark_all-both : (kept : List KeptStage) (first rest all : List ℕ) (marks : List Bool) → all ≡ first ++ reverse rest → mark_all kept rest (mark_all kept first marks) ≡ mark_all kept all marks
mark_all-both kept first rest all marks is =
    sym (mark_all-reverse kept rest (mark_all kept first marks)) ∙ sym (mark_all-append kept first (reverse rest) marks) ∙ sym (ap (λ xs. mark_all kept xs marks) is)
