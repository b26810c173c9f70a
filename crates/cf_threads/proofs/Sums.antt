-- Weights that are added up.
use Rattle.std.proofs.Common.{◌≡◌, ℕ, zero, suc, ◌+◌, ◌≤◌, List, [], ◌∷◌, ◌++◌, set, refl, sym, ap, arith}
use mathlib.Core.Option.{some, some-ne-none, some-injective}
use lib.ListN.{get_elem?}
use Rattle.cf_threads.specs.Turns.{weigh}

pub weigh_append : {A : Type 0} (f : A → ℕ) (xs ys : List A) → weigh f (xs ++ ys) ≡ weigh f xs + weigh f ys
weigh_append f [] ys = omega arith
weigh_append f (x ∷ xs) ys = let more = weigh_append f xs ys in omega (arith, more)

pub weigh_push : {A : Type 0} (f : A → ℕ) (xs : List A) (x : A) → weigh f (xs ++ x ∷ []) ≡ weigh f xs + f x
weigh_push f xs x = let all = weigh_append f xs (x ∷ []) in omega (arith, all)

pub weigh_both : {A : Type 0} (f g : A → ℕ) (xs : List A) → weigh (λ (x : A). f x + g x) xs ≡ weigh f xs + weigh g xs
weigh_both f g [] = omega arith
weigh_both f g (x ∷ xs) = let more = weigh_both f g xs in omega (arith, more)

-- the sum after a change of one
pub weigh_set : {A : Type 0} (f : A → ℕ) (xs : List A) (by : ℕ) (v w : A) → get_elem? xs by ≡ some v → weigh f (set xs by w) + f v ≡ weigh f xs + f w
weigh_set f [] by v w e = absurd (some-ne-none v (sym e))
weigh_set f (x ∷ xs) zero v w e = let is = ap f (some-injective x v e) in omega (arith, is)
weigh_set f (x ∷ xs) (suc by) v w e = let more = weigh_set f xs by v w e in omega (arith, more)

pub one_of_sum : {A : Type 0} (f : A → ℕ) (xs : List A) (by : ℕ) (v : A) → get_elem? xs by ≡ some v → f v ≤ weigh f xs
one_of_sum f [] by v e = absurd (some-ne-none v (sym e))
one_of_sum f (x ∷ xs) zero v e = let is = ap f (some-injective x v e) in omega (arith, is)
one_of_sum f (x ∷ xs) (suc by) v e = let more = one_of_sum f xs by v e in omega (arith, more)

-- where each weighs no more by the one than by the other, so do all
pub less_in_sum : {A : Type 0} (f g : A → ℕ) (xs : List A) → ((j : ℕ) (x : A) → get_elem? xs j ≡ some x → g x ≤ f x) → weigh g xs ≤ weigh f xs
less_in_sum f g [] less = omega arith
less_in_sum f g (x ∷ xs) less =
    let first = less 0 x refl in
    let more = less_in_sum f g xs (λ j y e. less (suc j) y e) in
    omega (arith, first, more)

-- and the gap between all is as wide as that of one
pub gap_in_sum : {A : Type 0} (f g : A → ℕ) (xs : List A) (by : ℕ) (v : A) → get_elem? xs by ≡ some v → ((j : ℕ) (x : A) → get_elem? xs j ≡ some x → g x ≤ f x) → f v + weigh g xs ≤ g v + weigh f xs
gap_in_sum f g [] by v e less = absurd (some-ne-none v (sym e))
gap_in_sum f g (x ∷ xs) zero v e less =
    let is = some-injective x v e in
    let a = ap f is in
    let b = ap g is in
    let more = less_in_sum f g xs (λ j y at. less (suc j) y at) in
    omega (arith, a, b, more)
gap_in_sum f g (x ∷ xs) (suc by) v e less =
    let first = less 0 x refl in
    let more = gap_in_sum f g xs by v e (λ j y at. less (suc j) y at) in
    omega (arith, first, more)
