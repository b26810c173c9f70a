-- Where each number below a list's length is there, it is there once.
use Rattle.std.proofs.Common.{◌≡◌, ℕ, zero, suc, ◌<◌, ◌≤◌, List, [], ◌∷◌, ◌++◌, inl, inr, length, ap, arith, subst, length-append}
use Rattle.std.specs.Prelude.{Contains, ◌⊎◌, map}
use Rattle.std.proofs.lemmas.List.{length-map}
use Rattle.cf_explore_laws.proofs.Lists.{contains-cases, contains-first, contains-later, contains-map, contains-none}

record Parted {A : Type 0} (x : A) (xs : List A) : Type 0 where
  first : List A
  last : List A
  is : xs ≡ first ++ x ∷ last

parted : {A : Type 0} (x : A) (xs : List A) → Contains xs x → Parted x xs
parted x [] h = absurd (contains-none x h)
parted {A} x (y ∷ xs) h = split (contains-cases y x xs h) (parted x xs)
  where
    split : (y ≡ x) ⊎ Contains xs x → (Contains xs x → Parted x xs) → Parted x (y ∷ xs)
    split (inl e) rest = record { first = []; last = xs; is = ap (λ (z : A). z ∷ xs) e }
    split (inr there) rest = (let q = rest there in record { first = y ∷ q.first; last = q.last; is = ap (λ (l : List A). y ∷ l) q.is })

-- it is one element, or among others
abbrev IsIn : {A : Type 0} → List A → A → A → Type 0
IsIn xs x y = (x ≡ y) ⊎ Contains xs y

-- without one element, all others are there
without : {A : Type 0} (x y : A) (first last : List A) → Contains (first ++ x ∷ last) y → (x ≡ y) ⊎ Contains (first ++ last) y
without x y [] last h = contains-cases x y last h
without {A} x y (z ∷ first) last h = split (contains-cases z y (first ++ x ∷ last) h) (without x y first last)
  where
    later : (x ≡ y) ⊎ Contains (first ++ last) y → (x ≡ y) ⊎ Contains (z ∷ (first ++ last)) y
    later (inl e) = inl e
    later (inr g) = inr (contains-later z y (first ++ last) g)

    split : (z ≡ y) ⊎ Contains (first ++ x ∷ last) y → (Contains (first ++ x ∷ last) y → (x ≡ y) ⊎ Contains (first ++ last) y) → (x ≡ y) ⊎ Contains (z ∷ (first ++ last)) y
    split (inl e) rest = inr (subst (λ (w : A). Contains (z ∷ (first ++ last)) w) e (contains-first z (first ++ last)))
    split (inr there) rest = later (rest there)

-- so many numbers want as many places
pigeons : (n : ℕ) (ns : List ℕ) → ((c : ℕ) → c < n → Contains ns c) → n ≤ length ns
pigeons zero ns h = omega arith
pigeons (suc n) ns h =
    let q = parted n ns (h n (omega arith)) in
    let rest = pigeons n (q.first ++ q.last) (λ c l. other (q.first ++ q.last) c l (without n c q.first q.last (subst (λ (x : List ℕ). Contains x c) q.is (h c (omega arith))))) in
    let whole = ap length q.is in
    omega (arith, length-append q.first (n ∷ q.last), length-append q.first q.last)
  where
    other : (xs : List ℕ) (c : ℕ) → c < n → (n ≡ c) ⊎ Contains xs c → Contains xs c
    other xs c l (inl e) = absurd (omega arith)
    other xs c l (inr g) = g

pub once : {R : Type 0} (callers : List (ℕ × R)) → ((d : ℕ) → d < length callers → (r : R) × Contains callers (d, r)) → (c : ℕ) (r s : R) → Contains callers (c, r) → Contains callers (c, s) → r ≡ s
once {R} callers all c r s h g = (let q = parted (c, r) callers h in split q (without (c, r) (c, s) q.first q.last (subst (λ (x : List (ℕ × R)). Contains x (c, s)) q.is g)))
  where
    there : (q : Parted (c, r) callers) → Contains (q.first ++ q.last) (c, s) → (d : ℕ) (t : R) → IsIn (q.first ++ q.last) (c, r) (d, t) → Contains (map (λ (k : ℕ × R). k.0) (q.first ++ q.last)) d
    there q other d t (inl e) =
        subst (λ (x : ℕ). Contains (map (λ (k : ℕ × R). k.0) (q.first ++ q.last)) x) (ap (λ (k : ℕ × R). k.0) e) (contains-map (λ (k : ℕ × R). k.0) (q.first ++ q.last) (c, s) other)
    there q other d t (inr f) = contains-map (λ (k : ℕ × R). k.0) (q.first ++ q.last) (d, t) f

    split : (q : Parted (c, r) callers) → IsIn (q.first ++ q.last) (c, r) (c, s) → r ≡ s
    split q (inl e) = ap (λ (k : ℕ × R). k.1) e
    split q (inr other) =
        let few = pigeons (length callers) (map (λ (k : ℕ × R). k.0) (q.first ++ q.last))
        (λ d l. (let one = all d l in there q other d one.0 (without (c, r) (d, one.0) q.first q.last (subst (λ (x : List (ℕ × R)). Contains x (d, one.0)) q.is one.1)))) in
        let whole = ap length q.is in
        absurd (omega (arith, length-map (q.first ++ q.last) (λ (k : ℕ × R). k.0), length-append q.first ((c, r) ∷ q.last), length-append q.first q.last))
