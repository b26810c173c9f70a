-- Elements of lists.
use Rattle.std.proofs.Common.{◌≡◌, ℕ, zero, suc, ◌+◌, ◌<◌, ◌≤◌, List, [], ◌∷◌, ◌++◌, Contains, inl, inr, length, length-append, map, refl, ap, arith, subst, ◌∙◌}
use Rattle.std.specs.Prelude.{◌⊎◌}
use Rattle.std.proofs.lemmas.List.{get_or-map, length-map}

pub contains_first : {A : Type 0} (x : A) (xs : List A) → Contains (x ∷ xs) x
contains_first x xs = (0, omega arith, refl)

pub contains_later : {A : Type 0} (x y : A) (xs : List A) → Contains xs y → Contains (x ∷ xs) y
contains_later x y xs h = (suc h.0, (let l = h.1 in omega arith), h.2)

pub contains_cases : {A : Type 0} (x y : A) (xs : List A) → Contains (x ∷ xs) y → (x ≡ y) ⊎ Contains xs y
contains_cases x y xs (zero, l, e) = inl e
contains_cases x y xs (suc k, l, e) = inr (k, omega arith, e)

pub contains_none : {A : Type 0} (y : A) → Contains [] y → ⊥
contains_none y h = absurd (let l = h.1 in omega arith)

-- what is made of an element is among what is made of all
pub contains_map : {A B : Type 0} (f : A → B) (xs : List A) (x : A) → Contains xs x → Contains (map f xs) (f x)
contains_map f xs x h = (h.0, (let l = h.1 in omega (arith, length-map xs f)), get_or-map f xs h.0 x (f x) h.1 ∙ ap f h.2)
