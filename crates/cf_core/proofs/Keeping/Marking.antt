-- What marking leaves, and which stages it marks.
use Rattle.std.proofs.Common.{◌≡◌, ℕ, ◌+◌, ◌<◌, ◌≤◌, ◌∷◌, [], List, Bool, true, false, cond, Option, Some, None, Contains, length, suc, zero, arith, ap, ◌∙◌, refl, set, inl, inr, length-set}
use Rattle.std.specs.Prelude.{slice_get, count_by, ◌==◌}
use Rattle.std.proofs.lemmas.Bool.Decides.{eqb_tells, nat_tests}
use Rattle.std.proofs.lemmas.List.Sums.{sum_by-cons}
use Rattle.cf_forms.specs.Plans.{mentions}
use Rattle.cf_model.proofs.StateLemmas.{slice_get-set_other}
use Rattle.cf_core.specs.declared.kept.KeptStage.{KeptStage}
use Rattle.cf_core.specs.Keeping.Sound.{is_waiting, kept_at, mark_one, mark_all}

-- ---- lists with one element written

pub get-set_same : {X : Type 0} (xs : List X) (i : ℕ) (y : X) → i < length xs → slice_get (set xs i y) i ≡ Some y
get-set_same [] i y l = absurd (omega arith)
get-set_same (x ∷ xs) zero y l = refl
get-set_same (x ∷ xs) (suc i) y l = get-set_same xs i y (omega arith)

-- ---- numbers that stand in a list

one_where : ℕ → ℕ → ℕ
one_where i x = cond (x == i) 1 0

mentions-cons : (i x : ℕ) (xs : List ℕ) → mentions i (x ∷ xs) ≡ cond (x == i) 1 0 + mentions i xs
mentions-cons i x xs = sum_by-cons (λ j. cond (j == i) 1 0) x xs

pub mentioned : (xs : List ℕ) (i : ℕ) → Contains xs i → 0 < mentions i xs
mentioned [] i c = absurd (omega (arith, c.1))
mentioned (x ∷ xs) i (zero, l, e) =
    let same : (x == i) ≡ true = (let f : x ≡ i = e in grind (arith, nat_tests)) in
    let h = mentions-cons i x xs ∙ ap (λ b. cond b 1 0 + mentions i xs) same in
    omega (arith, h)
mentioned (x ∷ xs) i (suc k, l, e) =
    let rest = mentioned xs i (k, omega arith, e) in
    let h = mentions-cons i x xs in
    omega (arith, h, rest)

-- ---- marks stay, and marking marks

mark_one-stays : (b : Bool) (marks : List Bool) (i j : ℕ) → slice_get marks j ≡ Some true → slice_get (cond b (set marks i true) marks) j ≡ Some true
mark_one-stays false marks i j e = e
mark_one-stays true marks i j e = elim (eqb_tells j i) [
  | inl h ↦ (let same = h.1 in rw same (get-set_same marks i true (within marks i j same e)))
  | inr h ↦ slice_get-set_other marks i j true h.1 ∙ e
]
  where
    within : (marks : List Bool) (i j : ℕ) → j ≡ i → slice_get marks j ≡ Some true → i < length marks
    within [] i j s e = cc
    within (x ∷ marks) zero j s e = omega arith
    within (x ∷ marks) (suc i) zero s e = absurd (omega arith)
    within (x ∷ marks) (suc i) (suc j) s e = let t : j ≡ i = omega arith in let l = within marks i j t e in omega arith

pub mark_all-stays : (kept : List KeptStage) (stages : List ℕ) (marks : List Bool) (j : ℕ) → slice_get marks j ≡ Some true → slice_get (mark_all kept stages marks) j ≡ Some true
mark_all-stays kept [] marks j e = e
mark_all-stays kept (i ∷ stages) marks j e =
    mark_all-stays kept stages (mark_one kept i marks) j (mark_one-stays (is_waiting ((kept_at kept i).stage)) marks i j e)

pub length-mark_one : (b : Bool) (marks : List Bool) (i : ℕ) → length (cond b (set marks i true) marks) ≡ length marks
length-mark_one true marks i = length-set marks i true
length-mark_one false marks i = refl

pub length-mark_all : (kept : List KeptStage) (stages : List ℕ) (marks : List Bool) → length (mark_all kept stages marks) ≡ length marks
length-mark_all kept [] marks = refl
length-mark_all kept (i ∷ stages) marks = length-mark_all kept stages (mark_one kept i marks) ∙ length-mark_one (is_waiting ((kept_at kept i).stage)) marks i

-- a stage that waits and is named is marked
pub mark_all-marks : (kept : List KeptStage) (stages : List ℕ) (marks : List Bool) (j : ℕ) → j < length marks → is_waiting ((kept_at kept j).stage) ≡ true → 0 < mentions j stages →
    slice_get (mark_all kept stages marks) j ≡ Some true
mark_all-marks kept [] marks j l w h = absurd (omega arith)
mark_all-marks kept (i ∷ stages) marks j l w h = elim (eqb_tells i j) [
  | inl s ↦ (let same = s.1 in
      let here : slice_get (mark_one kept i marks) j ≡ Some true = rw (same, w) (get-set_same marks j true l) in
      mark_all-stays kept stages (mark_one kept i marks) j here)
  | inr s ↦ (let ne = s.1 in
      let other : (i == j) ≡ false = grind (arith, nat_tests) in
      let m = mentions-cons j i stages ∙ ap (λ b. cond b 1 0 + mentions j stages) other in
      let n = length-mark_one (is_waiting ((kept_at kept i).stage)) marks i in
      mark_all-marks kept stages (mark_one kept i marks) j (omega (arith, n)) w (omega (arith, m, h)))
]

-- what isn't marked afterwards wasn't before
pub mark_all-unmarked : (kept : List KeptStage) (stages : List ℕ) (marks : List Bool) (j : ℕ) → slice_get (mark_all kept stages marks) j ≡ Some false → slice_get marks j ≡ Some false
mark_all-unmarked kept stages marks j e = by_mark (slice_get marks j) refl
  where
    none : (marks : List Bool) (j : ℕ) → slice_get marks j ≡ None → length marks ≤ j
    none [] j e = omega arith
    none (x ∷ marks) zero e = cc
    none (x ∷ marks) (suc j) e = let h = none marks j e in omega arith

    some : (marks : List Bool) (j : ℕ) (b : Bool) → slice_get marks j ≡ Some b → j < length marks
    some [] j b e = cc
    some (x ∷ marks) zero b e = omega arith
    some (x ∷ marks) (suc j) b e = let h = some marks j b e in omega arith

    by_mark : (m : Option Bool) → slice_get marks j ≡ m → slice_get marks j ≡ Some false
    by_mark (Some false) h = h
    by_mark (Some true) h = let k = mark_all-stays kept stages marks j h in cc
    by_mark None h =
        let few = none marks j h in
        let more = some (mark_all kept stages marks) j false e in
        absurd (omega (arith, few, more, length-mark_all kept stages marks))

-- ---- how many marks there are

pub count_of : List Bool → ℕ
count_of marks = count_by (λ b. b) marks

pub count-set_true : (marks : List Bool) (i : ℕ) → count_by (λ b. b) (set marks i true) ≤ count_by (λ b. b) marks + 1
count-set_true [] i = omega arith
count-set_true (x ∷ marks) zero =
    let h = sum_by-cons (λ (b : Bool). cond b 1 0) true marks in
    let k = sum_by-cons (λ (b : Bool). cond b 1 0) x marks in
    omega (arith, h, k)
count-set_true (x ∷ marks) (suc i) =
    let h = sum_by-cons (λ (b : Bool). cond b 1 0) x (set marks i true) in
    let k = sum_by-cons (λ (b : Bool). cond b 1 0) x marks in
    let rest = count-set_true marks i in
    omega (arith, h, k, rest)

count-mark_one : (b : Bool) (marks : List Bool) (i : ℕ) → count_by (λ b. b) (cond b (set marks i true) marks) ≤ count_by (λ b. b) marks + 1
count-mark_one true marks i = count-set_true marks i
count-mark_one false marks i = omega arith

pub count-mark_all : (kept : List KeptStage) (stages : List ℕ) (marks : List Bool) → count_by (λ b. b) (mark_all kept stages marks) ≤ count_by (λ b. b) marks + length stages
count-mark_all kept [] marks = omega arith
count-mark_all kept (i ∷ stages) marks =
    let rest = count-mark_all kept stages (mark_one kept i marks) in
    let here = count-mark_one (is_waiting ((kept_at kept i).stage)) marks i in
    omega (arith, rest, here)

pub count-set_false : (marks : List Bool) (i : ℕ) → slice_get marks i ≡ Some true → count_by (λ b. b) (set marks i false) + 1 ≡ count_by (λ b. b) marks
count-set_false [] i e = cc
count-set_false (x ∷ marks) zero e =
    let same : x ≡ true = cc in
    let h = sum_by-cons (λ (b : Bool). cond b 1 0) false marks in
    let k = sum_by-cons (λ (b : Bool). cond b 1 0) x marks ∙ ap (λ b. cond b 1 0 + count_by (λ b. b) marks) same in
    omega (arith, h, k)
count-set_false (x ∷ marks) (suc i) e =
    let h = sum_by-cons (λ (b : Bool). cond b 1 0) x (set marks i false) in
    let k = sum_by-cons (λ (b : Bool). cond b 1 0) x marks in
    let rest = count-set_false marks i e in
    omega (arith, h, k, rest)
