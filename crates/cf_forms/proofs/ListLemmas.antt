-- What stands at a place of a list that has more elements behind it.
use Rattle.std.proofs.Common.{◌≡◌, ℕ, ◌+◌, ◌-◌, ◌<◌, ◌≤◌, ◌∷◌, ◌++◌, [], List, Some, length, suc, zero, arith, ap, sym, ◌∙◌, refl, inl, inr, ◌⊎◌}
use Rattle.std.specs.Prelude.{slice_get}

-- the front stays
pub slice_get-front : {X : Type 0} (xs ys : List X) (i : ℕ) → i < length xs → slice_get (xs ++ ys) i ≡ slice_get xs i
slice_get-front [] ys i l = absurd (omega arith)
slice_get-front (x ∷ xs) ys zero l = refl
slice_get-front (x ∷ xs) ys (suc i) l = slice_get-front xs ys i (omega arith)

pub slice_get-longer : {X : Type 0} (xs ys : List X) (i : ℕ) (x : X) → slice_get xs i ≡ Some x → slice_get (xs ++ ys) i ≡ Some x
slice_get-longer [] ys i x e = cc
slice_get-longer (y ∷ xs) ys zero x e = e
slice_get-longer (y ∷ xs) ys (suc i) x e = slice_get-longer xs ys i x e

-- an element behind the front
pub slice_get-seam : {X : Type 0} (xs : List X) (y : X) (ys : List X) → slice_get (xs ++ y ∷ ys) (length xs) ≡ Some y
slice_get-seam [] y ys = refl
slice_get-seam (x ∷ xs) y ys = slice_get-seam xs y ys

-- the elements behind the front
pub slice_get-behind : {X : Type 0} (xs ys : List X) (i : ℕ) → length xs ≤ i → slice_get (xs ++ ys) i ≡ slice_get ys (i - length xs)
slice_get-behind [] ys i past = let e : i - 0 ≡ i = omega arith in ap (slice_get ys) (sym e)
slice_get-behind (x ∷ xs) ys zero past = absurd (omega arith)
slice_get-behind (x ∷ xs) ys (suc i) past =
    let e : suc i - suc (length xs) ≡ i - length xs = omega arith in
    slice_get-behind xs ys i (omega arith) ∙ ap (slice_get ys) (sym e)

-- what stands anywhere, once one element more does
pub slice_get-push : {X : Type 0} (xs : List X) (x : X) (i : ℕ) (y : X) → slice_get (xs ++ x ∷ []) i ≡ Some y → (slice_get xs i ≡ Some y) ⊎ ((i ≡ length xs) × (x ≡ y))
slice_get-push [] x zero y e = inr (refl, cc)
slice_get-push [] x (suc i) y e = cc
slice_get-push (z ∷ xs) x zero y e = inl e
slice_get-push (z ∷ xs) x (suc i) y e = elim (slice_get-push xs x i y e) [
  | inl h ↦ inl h
  | inr h ↦ inr (ap suc h.0, h.1)
]
