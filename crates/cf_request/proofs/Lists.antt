-- Lists of numbers: rising ones, and ones in which no number stands twice.
use Rattle.std.proofs.Common.{◌≡◌, ◌≢◌, ℕ, zero, suc, ◌+◌, ◌-◌, ◌<◌, ◌≤◌, Bool, true, false, cond, min, take, drop, get_or, List, [], ◌∷◌, ◌++◌, All, Contains, length, length-append, length-drop, refl, ap, sym, ◌∙◌, arith, subst, inl, inr, ◌⊎◌}
use Rattle.std.specs.List.{filter}
use Rattle.std.proofs.lemmas.Bool.{cases_lt}
use Rattle.std.proofs.lemmas.List.{drop-drop, drop_min, take_min}
use Rattle.std.proofs.lemmas.List.Elements.{All-append, All-cons, All-filter, All-head, All-nil, All-push, All-tail, All-weaker, Contains-append_cases, Contains-append_left, Contains-append_right}
use Rattle.cf_model.specs.Graphs.{IsClimbing}
use Rattle.cf_request.specs.Telling.{IsApart}

-- ---- what stands in a list

pub contains_head : (x : ℕ) (xs : List ℕ) → Contains (x ∷ xs) x
contains_head x xs = (0, omega arith, refl)

pub contains_tail : (x y : ℕ) (xs : List ℕ) → Contains xs y → Contains (x ∷ xs) y
contains_tail x y xs h = Contains-append_right (x ∷ []) xs y h

pub contains_cases : (x y : ℕ) (xs : List ℕ) → Contains (x ∷ xs) y → (x ≡ y) ⊎ Contains xs y
contains_cases x y xs (zero, l, e) = inl e
contains_cases x y xs (suc k, l, e) = inr (k, omega (arith, l), e)

filter_cond : (b : Bool) (p : ℕ → Bool) (x y : ℕ) (xs : List ℕ) → p x ≡ b → p y ≡ true → (x ≡ y) ⊎ Contains (filter p xs) y → Contains (cond b (x ∷ filter p xs) (filter p xs)) y
filter_cond true p x y xs e is (inl same) = subst (λ z. Contains (x ∷ filter p xs) z) same (contains_head x (filter p xs))
filter_cond true p x y xs e is (inr h) = contains_tail x y (filter p xs) h
filter_cond false p x y xs e is (inl same) = let h = ap p same in cc
filter_cond false p x y xs e is (inr h) = h

filter_or : (p : ℕ → Bool) (x y : ℕ) (xs : List ℕ) → (Contains xs y → Contains (filter p xs) y) → (x ≡ y) ⊎ Contains xs y → (x ≡ y) ⊎ Contains (filter p xs) y
filter_or p x y xs next (inl same) = inl same
filter_or p x y xs next (inr h) = inr (next h)

pub contains_filter : (p : ℕ → Bool) (xs : List ℕ) (y : ℕ) → p y ≡ true → Contains xs y → Contains (filter p xs) y
contains_filter p [] y is h = let l = h.1 in absurd (omega (arith, l))
contains_filter p (x ∷ xs) y is h = filter_cond (p x) p x y xs refl is (filter_or p x y xs (contains_filter p xs y is) (contains_cases x y xs h))

-- what passes from a place on: the element there, if it passes, and what passes behind it
pub filter_from : (p : ℕ → Bool) (xs : List ℕ) (k d : ℕ) → k < length xs → filter p (drop k xs) ≡ cond (p (get_or xs k d)) (get_or xs k d ∷ filter p (drop (k + 1) xs)) (filter p (drop (k + 1) xs))
filter_from p [] k d l = absurd (omega (arith, l))
filter_from p (x ∷ xs) zero d l = refl
filter_from p (x ∷ xs) (suc k) d l =
    let next : suc (k + 1) ≡ suc k + 1 = omega arith in
    subst (λ (m : ℕ). filter p (drop k xs) ≡ cond (p (get_or xs k d)) (get_or xs k d ∷ filter p (drop m (x ∷ xs))) (filter p (drop m (x ∷ xs)))) next (filter_from p xs k d (omega (arith, l)))

abbrev pub weigh : Bool → ℕ
weigh b = cond b 1 0

-- how long either is
pub length_cond : (b : Bool) (x : ℕ) (xs : List ℕ) → length (cond b (x ∷ xs) xs) ≡ cond b 1 0 + length xs
length_cond true x xs = omega arith
length_cond false x xs = omega arith

pub length_one : (b : Bool) (x : ℕ) → length (cond b (x ∷ []) []) ≡ cond b 1 0
length_one true x = refl
length_one false x = refl

-- ---- rising

pub climbing_push : (xs : List ℕ) (m : ℕ) → IsClimbing xs → All (λ x. x < m) xs → IsClimbing (xs ++ m ∷ [])
climbing_push [] m h below = (All-nil (λ later. m < later), tt)
climbing_push (x ∷ xs) m h below = (All-push (λ later. x < later) xs m h.0 (All-head (λ y. y < m) x xs below), climbing_push xs m h.1 (All-tail (λ y. y < m) x xs below))

climbing_cond : (b : Bool) (p : ℕ → Bool) (x : ℕ) (xs : List ℕ) → All (λ later. x < later) xs → IsClimbing (filter p xs) → IsClimbing (cond b (x ∷ filter p xs) (filter p xs))
climbing_cond true p x xs above h = (All-filter p (λ later. x < later) xs above, h)
climbing_cond false p x xs above h = h

pub climbing_filter : (p : ℕ → Bool) (xs : List ℕ) → IsClimbing xs → IsClimbing (filter p xs)
climbing_filter p [] h = tt
climbing_filter p (x ∷ xs) h = climbing_cond (p x) p x xs h.0 (climbing_filter p xs h.1)

-- ---- each once

pub apart_climbing : (xs : List ℕ) → IsClimbing xs → IsApart xs
apart_climbing [] h = tt
apart_climbing (x ∷ xs) h = (All-weaker (λ y. x < y) (λ y. x ≢ y) (λ y l same. omega (arith, l, same)) xs h.0, apart_climbing xs h.1)

not_in : (x : ℕ) (ys : List ℕ) → (Contains ys x → ⊥) → All (λ y. x ≢ y) ys
not_in x [] h = All-nil (λ y. x ≢ y)
not_in x (y ∷ ys) h = All-cons (λ z. x ≢ z) y ys (λ same. h (subst (λ (z : ℕ). Contains (y ∷ ys) z) (sym same) (contains_head y ys))) (not_in x ys (λ k. h (contains_tail y x ys k)))

pub apart_append : (xs ys : List ℕ) → IsApart xs → IsApart ys → ((i : ℕ) → Contains xs i → Contains ys i → ⊥) → IsApart (xs ++ ys)
apart_append [] ys h k none = k
apart_append (x ∷ xs) ys h k none =
    (All-append (λ y. x ≢ y) xs ys h.0 (not_in x ys (none x (contains_head x xs))), apart_append xs ys h.1 k (λ i a b. none i (contains_tail x i xs a) b))

-- of the numbers below n there are so many
record Parted (x : ℕ) (xs : List ℕ) : Type 0 where
  first : List ℕ
  last : List ℕ
  is : xs ≡ first ++ x ∷ last

parted_by : (x y : ℕ) (xs : List ℕ) → (y ≡ x) ⊎ Contains xs x → (Contains xs x → Parted x xs) → Parted x (y ∷ xs)
parted_by x y xs (inl e) rest = record { first = []; last = xs; is = ap (λ (z : ℕ). z ∷ xs) e }
parted_by x y xs (inr there) rest = let q = rest there in record { first = y ∷ q.first; last = q.last; is = ap (λ (l : List ℕ). y ∷ l) q.is }

parted : (x : ℕ) (xs : List ℕ) → Contains xs x → Parted x xs
parted x [] h = let l = h.1 in absurd (omega (arith, l))
parted x (y ∷ xs) h = parted_by x y xs (contains_cases y x xs h) (parted x xs)

later_in : (x y : ℕ) (first last : List ℕ) → x ≢ y → (x ≡ y) ⊎ Contains last y → Contains (first ++ last) y
later_in x y first last differs (inl same) = absurd (differs same)
later_in x y first last differs (inr later) = Contains-append_right first last y later

left_in : (x y : ℕ) (first last : List ℕ) → x ≢ y → Contains first y ⊎ Contains (x ∷ last) y → Contains (first ++ last) y
left_in x y first last differs (inl front) = Contains-append_left first last y front
left_in x y first last differs (inr back) = later_in x y first last differs (contains_cases x y last back)

left_over : (x : ℕ) (first last xs : List ℕ) → All (λ y. x ≢ y) xs → All (Contains (first ++ x ∷ last)) xs → All (Contains (first ++ last)) xs
left_over x first last xs h g k d l = left_in x (get_or xs k d) first last (h k d l) (Contains-append_cases first (x ∷ last) (get_or xs k d) (g k d l))

few_in : (xs ys : List ℕ) → IsApart xs → All (Contains ys) xs → length xs ≤ length ys
few_in [] ys h g = omega arith
few_in (x ∷ xs) ys h g =
    let p = parted x ys (All-head (Contains ys) x xs g) in
    let inside = subst (λ (l : List ℕ). All (Contains l) xs) p.is (All-tail (Contains ys) x xs g) in
    let rest = few_in xs (p.first ++ p.last) h.1 (left_over x p.first p.last xs h.0 inside) in
    let size = ap (λ (l : List ℕ). length l) p.is in
    let front = length-append p.first (x ∷ p.last) in
    let both = length-append p.first p.last in
    omega (arith, rest, size, front, both)

abbrev numbers : ℕ → List ℕ
numbers zero = []
numbers (suc n) = n ∷ numbers n

length_numbers : (n : ℕ) → length (numbers n) ≡ n
length_numbers zero = refl
length_numbers (suc n) = ap suc (length_numbers n)

in_numbers : (n i : ℕ) → i < n → Contains (numbers n) i
in_numbers zero i l = absurd (omega (arith, l))
in_numbers (suc n) i l = elim (cases_lt i n) [
  | inl below ↦ contains_tail n i (numbers n) (in_numbers n i below)
  | inr above ↦ (let same : n ≡ i = omega (arith, l, above) in subst (λ (z : ℕ). Contains (n ∷ numbers n) z) same (contains_head n (numbers n)))
]

pub few_apart : (n : ℕ) (xs : List ℕ) → IsApart xs → All (λ i. i < n) xs → length xs ≤ n
few_apart n xs h below =
    let all = few_in xs (numbers n) h (All-weaker (λ i. i < n) (Contains (numbers n)) (λ i l. in_numbers n i l) xs below) in
    let size = length_numbers n in
    omega (arith, all, size)

-- ---- the front and the rest

abbrev nothing : List ℕ
nothing = []

take_none : (k : ℕ) → take k nothing ≡ nothing
take_none zero = refl
take_none (suc k) = refl

-- so many more are taken
pub take_on : (n k : ℕ) (xs : List ℕ) → take (n + k) xs ≡ take n xs ++ take k (drop n xs)
take_on zero k xs = let none : k ≡ zero + k = omega arith in subst (λ (m : ℕ). take m xs ≡ take zero xs ++ take k (drop zero xs)) none refl
take_on (suc n) k [] = let one : suc (n + k) ≡ suc n + k = omega arith in subst (λ (m : ℕ). take m nothing ≡ take (suc n) nothing ++ take k (drop (suc n) nothing)) one (sym (take_none k))
take_on (suc n) k (x ∷ xs) =
    let one : suc (n + k) ≡ suc n + k = omega arith in
    subst (λ (m : ℕ). take m (x ∷ xs) ≡ take (suc n) (x ∷ xs) ++ take k (drop (suc n) (x ∷ xs))) one (ap (λ (l : List ℕ). x ∷ l) (take_on n k xs))

-- and no more than are there
pub take_up_to : (n k : ℕ) (xs : List ℕ) → take (n + min k (length xs - n)) xs ≡ take n xs ++ take k (drop n xs)
take_up_to n k xs =
    take_on n (min k (length xs - n)) xs
    ∙ ap (λ (m : ℕ). take n xs ++ take (min k m) (drop n xs)) (sym (length-drop n xs)) ∙ ap (λ (l : List ℕ). take n xs ++ l) (take_min k (drop n xs))

pub drop_up_to : (n k : ℕ) (xs : List ℕ) → drop (n + min k (length xs - n)) xs ≡ drop k (drop n xs)
drop_up_to n k xs =
    sym (drop-drop (min k (length xs - n)) n xs)
    ∙ ap (λ (m : ℕ). drop (min k m) (drop n xs)) (sym (length-drop n xs)) ∙ drop_min k (drop n xs)
