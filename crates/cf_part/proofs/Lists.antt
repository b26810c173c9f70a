-- Lists in which no number stands twice, and places in lists.
use Rattle.std.proofs.Common.{◌≡◌, ◌≢◌, ℕ, zero, suc, ◌<◌, inl, inr, List, [], ◌∷◌, ◌++◌, All, Contains, get_or, length, replicate, refl, sym, subst, arith}
use Rattle.std.proofs.lemmas.Bool.{cases_lt}
use Rattle.std.proofs.lemmas.List.{get_or_past}
use Rattle.std.proofs.lemmas.List.Elements.{All-append, All-cons, All-nil, Contains-append_right}
use Rattle.cf_part.specs.Rows.{IsApart}

pub contains_head : (x : ℕ) (xs : List ℕ) → Contains (x ∷ xs) x
contains_head x xs = (0, omega arith, refl)

pub contains_tail : (x y : ℕ) (xs : List ℕ) → Contains xs y → Contains (x ∷ xs) y
contains_tail x y xs h = Contains-append_right (x ∷ []) xs y h

not_in : (x : ℕ) (ys : List ℕ) → (Contains ys x → ⊥) → All (λ y. x ≢ y) ys
not_in x [] h = All-nil (λ y. x ≢ y)
not_in x (y ∷ ys) h = All-cons (λ z. x ≢ z) y ys (λ same. h (subst (λ (z : ℕ). Contains (y ∷ ys) z) (sym same) (contains_head y ys))) (not_in x ys (λ k. h (contains_tail y x ys k)))

pub apart_append : (xs ys : List ℕ) → IsApart xs → IsApart ys → ((i : ℕ) → Contains xs i → Contains ys i → ⊥) → IsApart (xs ++ ys)
apart_append [] ys h k none = k
apart_append (x ∷ xs) ys h k none =
    (All-append (λ y. x ≢ y) xs ys h.0 (not_in x ys (none x (contains_head x xs))), apart_append xs ys h.1 k (λ i a b. none i (contains_tail x i xs a) b))

-- what isn't the default has a place
pub there_by : {A : Type 0} (xs : List A) (i : ℕ) (d : A) → get_or xs i d ≢ d → i < length xs
there_by xs i d ne = elim (cases_lt i (length xs)) [
  | inl lt ↦ lt
  | inr le ↦ absurd (ne (get_or_past xs i d le))
]

-- ---- values behind a list

pub get_front : {A : Type 0} (xs ys : List A) (i : ℕ) (d : A) → i < length xs → get_or (xs ++ ys) i d ≡ get_or xs i d
get_front [] ys i d there = absurd (omega (arith, there))
get_front (x ∷ xs) ys zero d there = refl
get_front (x ∷ xs) ys (suc i) d there = get_front xs ys i d (omega (arith, there))

-- the default behind it changes nothing
default_at : {A : Type 0} (d : A) (more i : ℕ) → get_or (replicate more d) i d ≡ d
default_at d zero i = refl
default_at d (suc more) zero = refl
default_at d (suc more) (suc i) = default_at d more i

pub get_more : {A : Type 0} (xs : List A) (d : A) (more i : ℕ) → get_or (xs ++ replicate more d) i d ≡ get_or xs i d
get_more [] d more i = default_at d more i
get_more (x ∷ xs) d more zero = refl
get_more (x ∷ xs) d more (suc i) = get_more xs d more i
