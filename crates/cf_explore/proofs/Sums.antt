-- Sums over lists that are mapped, joined and filtered.
use Rattle.std.proofs.Common.{◌≡◌, ℕ, ◌+◌, Bool, true, false, List, [], ◌∷◌, ap, arith, refl, sym, ◌∙◌}
use Rattle.std.specs.Prelude.{sum_by, flat_map, map, if◌then◌else◌}
use Rattle.std.specs.List.{filter}
use Rattle.std.proofs.lemmas.List.Sums.{sum_by-append, sum_by-cons}

pub sum_by-mapped : {A B : Type 0} (f : B → ℕ) (g : A → B) (xs : List A) → sum_by f (map g xs) ≡ sum_by (λ x. f (g x)) xs
sum_by-mapped f g [] = refl
sum_by-mapped f g (x ∷ xs) =
    sum_by-cons f (g x) (map g xs) ∙ ap (λ n. f (g x) + n) (sum_by-mapped f g xs) ∙ sym (sum_by-cons (λ x. f (g x)) x xs)

pub sum_by-joined : {A B : Type 0} (f : B → ℕ) (g : A → List B) (xs : List A) → sum_by f (flat_map g xs) ≡ sum_by (λ x. sum_by f (g x)) xs
sum_by-joined f g [] = refl
sum_by-joined f g (x ∷ xs) =
    sum_by-append f (g x) (flat_map g xs) ∙ ap (λ n. sum_by f (g x) + n) (sum_by-joined f g xs) ∙ sym (sum_by-cons (λ x. sum_by f (g x)) x xs)

filter-cons : {A : Type 0} (p : A → Bool) (f : A → ℕ) (x : A) (xs : List A) (b : Bool) → p x ≡ b →
    sum_by f (filter p (x ∷ xs)) ≡ (if b then f x else 0) + sum_by f (filter p xs)
filter-cons p f x xs true e = rw e (sum_by-cons f x (filter p xs))
filter-cons p f x xs false e = rw e (omega arith)

pub sum_by-filtered : {A : Type 0} (p : A → Bool) (f : A → ℕ) (xs : List A) → sum_by f (filter p xs) ≡ sum_by (λ x. if p x then f x else 0) xs
sum_by-filtered p f [] = refl
sum_by-filtered p f (x ∷ xs) =
    filter-cons p f x xs (p x) refl ∙ ap (λ n. (if p x then f x else 0) + n) (sum_by-filtered p f xs) ∙ sym (sum_by-cons (λ x. if p x then f x else 0) x xs)
