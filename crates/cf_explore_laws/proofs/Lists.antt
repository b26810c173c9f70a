-- Elements of lists that are mapped, joined and filtered, and sums that aren't 0.
use Rattle.std.proofs.Common.{◌≡◌, ℕ, zero, suc, ◌<◌, Bool, true, false, cond, Some, None, List, [], ◌∷◌, ◌++◌, inl, inr, length, get_or, ap, arith, refl, sym, ◌∙◌, subst}
use Rattle.std.specs.Prelude.{Contains, ◌⊎◌, flat_map, map, slice_get, sum_by}
use Rattle.std.specs.List.{filter}
use Rattle.std.proofs.lemmas.List.Elements.{Contains-append_left, Contains-append_right}
use Rattle.std.proofs.lemmas.List.Sums.{sum_by-cons, get_or-le-sum_by}

pub contains-first : {A : Type 0} (x : A) (xs : List A) → Contains (x ∷ xs) x
contains-first x xs = (0, omega arith, refl)

pub contains-later : {A : Type 0} (x y : A) (xs : List A) → Contains xs y → Contains (x ∷ xs) y
contains-later x y xs h = (suc h.0, (let l = h.1 in omega arith), h.2)

pub contains-cases : {A : Type 0} (x y : A) (xs : List A) → Contains (x ∷ xs) y → (x ≡ y) ⊎ Contains xs y
contains-cases x y xs (zero, l, e) = inl e
contains-cases x y xs (suc k, l, e) = inr (k, omega arith, e)

pub contains-none : {A : Type 0} (y : A) → Contains [] y → ⊥
contains-none y h = absurd (let l = h.1 in omega arith)

pub contains-map : {A B : Type 0} (f : A → B) (xs : List A) (y : A) → Contains xs y → Contains (map f xs) (f y)
contains-map f [] y h = absurd (contains-none y h)
contains-map {A} {B} f (x ∷ xs) y h = split (contains-cases x y xs h) (contains-map f xs y)
  where
    split : (x ≡ y) ⊎ Contains xs y → (Contains xs y → Contains (map f xs) (f y)) → Contains (map f (x ∷ xs)) (f y)
    split (inl e) rest = subst (λ (z : A). Contains (f x ∷ map f xs) (f z)) e (contains-first (f x) (map f xs))
    split (inr there) rest = contains-later (f x) (f y) (map f xs) (rest there)

pub contains-joined : {A B : Type 0} (f : A → List B) (xs : List A) (y : A) (z : B) → Contains xs y → Contains (f y) z → Contains (flat_map f xs) z
contains-joined f [] y z h g = absurd (contains-none y h)
contains-joined {A} {B} f (x ∷ xs) y z h g = split (contains-cases x y xs h) (λ there. contains-joined f xs y z there g)
  where
    split : (x ≡ y) ⊎ Contains xs y → (Contains xs y → Contains (flat_map f xs) z) → Contains (f x ++ flat_map f xs) z
    split (inl e) rest = Contains-append_left (f x) (flat_map f xs) z (subst (λ (w : A). Contains (f w) z) (sym e) g)
    split (inr there) rest = Contains-append_right (f x) (flat_map f xs) z (rest there)

pub contains-filtered : {A : Type 0} (p : A → Bool) (xs : List A) (y : A) → p y ≡ true → Contains xs y → Contains (filter p xs) y
contains-filtered p [] y is h = absurd (contains-none y h)
contains-filtered {A} p (x ∷ xs) y is h = split (contains-cases x y xs h) (contains-filtered p xs y is) (p x) refl
  where
    split : (x ≡ y) ⊎ Contains xs y → (Contains xs y → Contains (filter p xs) y) → (b : Bool) → p x ≡ b → Contains (cond b (x ∷ filter p xs) (filter p xs)) y
    split (inl e) rest true q = subst (λ (z : A). Contains (x ∷ filter p xs) z) e (contains-first x (filter p xs))
    split (inl e) rest false q = absurd (let never : true ≡ false = sym is ∙ sym (ap p e) ∙ q in cc)
    split (inr there) rest true q = contains-later x y (filter p xs) (rest there)
    split (inr there) rest false q = rest there

-- a term that isn't 0, and a sum that isn't
pub sum-some : {A : Type 0} (f : A → ℕ) (xs : List A) (y : A) → Contains xs y → 0 < f y → 0 < sum_by f xs
sum-some f xs y h some =
    let below = get_or-le-sum_by f xs h.0 y h.1 in
    let is : f (get_or xs h.0 y) ≡ f y = ap f h.2 in
    omega arith

pub some-sum : {A : Type 0} (f : A → ℕ) (xs : List A) → 0 < sum_by f xs → (x : A) × Contains xs x × (0 < f x)
some-sum f [] h = absurd (omega arith)
some-sum {A} f (x ∷ xs) h = split (f x) refl (some-sum f xs)
  where
    split : (n : ℕ) → f x ≡ n → (0 < sum_by f xs → (y : A) × Contains xs y × (0 < f y)) → (y : A) × Contains (x ∷ xs) y × (0 < f y)
    split (suc n) e later = (x, contains-first x xs, omega arith)
    split zero e later =
        let apart = sum_by-cons f x xs in
        let rest = later (omega arith) in
        (rest.0, contains-later x rest.0 xs rest.1, rest.2)

-- an element behind others
pub slice_get-mapped : {A B : Type 0} (f : A → B) (xs : List A) (x : A) (ys : List A) → slice_get (map f (xs ++ x ∷ ys)) (length xs) ≡ Some (f x)
slice_get-mapped f [] x ys = refl
slice_get-mapped f (w ∷ xs) x ys = slice_get-mapped f xs x ys

pub slice_get-behind : {A B : Type 0} (f : A → B) (xs : List A) → slice_get (map f xs) (length xs) ≡ None
slice_get-behind f [] = refl
slice_get-behind f (x ∷ xs) = slice_get-behind f xs

-- the first element, and the others
first_of : {A : Type 0} → A → List A → A
first_of d [] = d
first_of d (x ∷ xs) = x

rest_of : {A : Type 0} → List A → List A
rest_of [] = []
rest_of (x ∷ xs) = xs

pub same-first : {A : Type 0} (x y : A) (xs ys : List A) → x ∷ xs ≡ y ∷ ys → x ≡ y
unfolding first_of
same-first x y xs ys e = ap (first_of x) e

pub same-rest : {A : Type 0} (x y : A) (xs ys : List A) → x ∷ xs ≡ y ∷ ys → xs ≡ ys
unfolding rest_of
same-rest x y xs ys e = ap rest_of e
