-- Lists threaded through arrays, as a stage is put in or taken out.
use Rattle.std.proofs.Common.{◌≡◌, ◌≢◌, ℕ, ◌+◌, ◌-◌, ◌<◌, ◌∷◌, [], List, All, Some, None, is_some, true, length, suc, zero, arith, ap, sym, ◌∙◌, subst, refl, set, get_or, replicate, drop, add-one, length-set, get_or-set_same, get_or-set_other}
use Rattle.std.specs.Prelude.{nat_lt, slice_get, slice_index}
use Rattle.std.proofs.lemmas.Bool.Decides.{nat_tests}
use Rattle.std.proofs.lemmas.List.{map-set, length-replicate}
use Rattle.std.proofs.lemmas.List.Elements.{All-head, All-tail, All-cons, All-set, All-drop, All-replicate}
use Rattle.cf_core.specs.declared.links.Head.{Head}
use Rattle.cf_core.specs.Keeping.Links.{walk, list_of, lists_of, list_at, AreLinks, IsFree}

pub length-lists_of : (next : List ℕ) (heads : List Head) → length (lists_of next heads) ≡ length heads
length-lists_of next [] = refl
length-lists_of next (head ∷ heads) = ap suc (length-lists_of next heads)

pub length-walk : (n : ℕ) (next : List ℕ) (i : ℕ) → length (walk n next i) ≡ n
length-walk zero next i = refl
length-walk (suc n) next i = ap suc (length-walk n next (slice_index next i))

-- a stage that isn't walked over may be written
walk-set : (n : ℕ) (next : List ℕ) (i s x : ℕ) → All (λ k. k ≢ s) (walk n next i) → walk n (set next s x) i ≡ walk n next i
walk-set zero next i s x h = refl
walk-set (suc n) next i s x h =
    let rest = walk n next (slice_index next i) in
    let here : slice_index (set next s x) i ≡ slice_index next i = get_or-set_other next s i x 0 (All-head (λ k. k ≢ s) i rest h) in
    ap (λ r. i ∷ r) (ap (walk n (set next s x)) here ∙ walk-set n next (slice_index next i) s x (All-tail (λ k. k ≢ s) i rest h))

lists_of-set : (next : List ℕ) (heads : List Head) (s x : ℕ) → IsFree (lists_of next heads) s → lists_of (set next s x) heads ≡ lists_of next heads
lists_of-set next [] s x h = refl
lists_of-set next (head ∷ heads) s x h =
    let P : List ℕ → Type 0 = λ stages. All (λ k. k ≢ s) stages in
    let here = walk-set head.count next head.first s x (All-head P (list_of next head) (lists_of next heads) h) in
    let rest = lists_of-set next heads s x (All-tail P (list_of next head) (lists_of next heads) h) in
    cc

-- the list of a stage, by its head
pub list_at-head : (next : List ℕ) (heads : List Head) (t : ℕ) (head : Head) → t < length heads → head ≡ get_or heads t head → list_at (lists_of next heads) t ≡ list_of next head
list_at-head next [] t head l e = absurd (omega arith)
list_at-head next (x ∷ heads) zero head l e = ap (list_of next) (sym e)
list_at-head next (x ∷ heads) (suc t) head l e = list_at-head next heads t head (omega arith) e

at_within : (lists : List (List ℕ)) (P : List ℕ → Type 0) (t : ℕ) → All P lists → P [] → P (list_at lists t)
at_within [] P t h none = none
at_within (x ∷ lists) P zero h none = All-head P x lists h
at_within (x ∷ lists) P (suc t) h none = at_within lists P t (All-tail P x lists h) none

-- ---- in

none_below : (n : ℕ) → All (λ i. i < n) []
none_below n = λ k d l. absurd (omega arith)

pushed : (n : ℕ) (next : List ℕ) (s x : ℕ) → s < length next → All (λ k. k ≢ s) (walk n next x) → walk (n + 1) (set next s x) s ≡ s ∷ walk n next x
pushed n next s x l h =
    let here : slice_index (set next s x) s ≡ x = get_or-set_same next s x 0 l in
    rw add-one (ap (λ r. s ∷ r) (ap (walk n (set next s x)) here ∙ walk-set n next x s x h))

pub lists_of-push : (next : List ℕ) (heads : List Head) (t s : ℕ) (head : Head) → t < length heads → s < length next → head ≡ get_or heads t head → IsFree (lists_of next heads) s →
    lists_of (set next s head.first) (set heads t (record { first = s; count = head.count + 1 })) ≡ set (lists_of next heads) t (s ∷ list_at (lists_of next heads) t)
lists_of-push next heads t s head l m e free =
    let new : Head = record { first = s; count = head.count + 1 } in
    let P : List ℕ → Type 0 = λ stages. All (λ k. k ≢ s) stages in
    let is = list_at-head next heads t head l e in
    let free_here : All (λ k. k ≢ s) (list_of next head) = subst P is (at_within (lists_of next heads) P t free (λ k d l. absurd (omega arith))) in
    map-set (list_of (set next s head.first)) heads t new
    ∙ ap (λ lists. set lists t (list_of (set next s head.first) new)) (lists_of-set next heads s head.first free)
    ∙ ap (λ stages. set (lists_of next heads) t stages) (pushed head.count next s head.first m free_here ∙ ap (λ r. s ∷ r) (sym is))

pub AreLinks-push : (next : List ℕ) (heads : List Head) (t s : ℕ) (head : Head) → t < length heads → s < length next → head ≡ get_or heads t head → IsFree (lists_of next heads) s →
    AreLinks next heads → AreLinks (set next s head.first) (set heads t (record { first = s; count = head.count + 1 }))
AreLinks-push next heads t s head l m e free h =
    let new : Head = record { first = s; count = head.count + 1 } in
    let n = length-set next s head.first in
    let P : List ℕ → Type 0 = λ stages. All (λ i. i < length next) stages in
    let Q : List (List ℕ) → Type 0 = λ lists. All (λ stages. All (λ i. i < length (set next s head.first)) stages) lists in
    let R : ℕ → Type 0 = λ k. All (λ stages. All (λ i. i < k) stages) (set (lists_of next heads) t (s ∷ list_at (lists_of next heads) t)) in
    let more : P (s ∷ list_at (lists_of next heads) t) = All-cons (λ i. i < length next) s (list_at (lists_of next heads) t) m (at_within (lists_of next heads) P t h.within (none_below (length next))) in
    record {
      all_heads = length-set heads t new ∙ h.all_heads ∙ sym n;
      within = subst Q (sym (lists_of-push next heads t s head l m e free)) (subst R (sym n) (All-set P (lists_of next heads) t (s ∷ list_at (lists_of next heads) t) more h.within));
    }

pub few_listed : (next : List ℕ) (heads : List Head) (t : ℕ) (head : Head) (n : ℕ) → t < length heads → head ≡ get_or heads t head → length (list_at (lists_of next heads) t) < n → head.count < n
few_listed next heads t head n l e few =
    let same = ap length (list_at-head next heads t head l e) ∙ length-walk head.count next head.first in omega (arith, same)

-- ---- out

walk-first : (n : ℕ) (next : List ℕ) (i : ℕ) → (n ≡ 0 → ⊥) → slice_get (walk n next i) 0 ≡ Some i
walk-first zero next i h = absurd (h refl)
walk-first (suc n) next i h = refl

walk-rest : (n : ℕ) (next : List ℕ) (i : ℕ) → (n ≡ 0 → ⊥) → walk (n - 1) next (slice_index next i) ≡ drop 1 (walk n next i)
walk-rest zero next i h = absurd (h refl)
walk-rest (suc n) next i h = let e : suc n - 1 ≡ n = omega arith in ap (λ m. walk m next (slice_index next i)) e

walk-below : (n bound : ℕ) (next : List ℕ) (i : ℕ) → (n ≡ 0 → ⊥) → All (λ k. k < bound) (walk n next i) → i < bound
walk-below zero bound next i h all = absurd (h refl)
walk-below (suc n) bound next i h all = All-head (λ k. k < bound) i (walk n next (slice_index next i)) all

pub first_listed : (next : List ℕ) (heads : List Head) (t : ℕ) (head : Head) → t < length heads → head ≡ get_or heads t head → (head.count ≡ 0 → ⊥) → slice_get (list_at (lists_of next heads) t) 0 ≡ Some head.first
first_listed next heads t head l e some = ap (λ xs. slice_get xs 0) (list_at-head next heads t head l e) ∙ walk-first head.count next head.first some

pub first_within : (next : List ℕ) (heads : List Head) (t : ℕ) (head : Head) → t < length heads → head ≡ get_or heads t head → (head.count ≡ 0 → ⊥) → AreLinks next heads → head.first < length next
first_within next heads t head l e some h =
    let P : List ℕ → Type 0 = λ stages. All (λ i. i < length next) stages in
    walk-below head.count (length next) next head.first some (subst P (list_at-head next heads t head l e) (at_within (lists_of next heads) P t h.within (none_below (length next))))

pub lists_of-pop : (next : List ℕ) (heads : List Head) (t : ℕ) (head : Head) (then : ℕ) → t < length heads → head ≡ get_or heads t head → (head.count ≡ 0 → ⊥) → then ≡ slice_index next head.first →
    lists_of next (set heads t (record { first = then; count = head.count - 1 })) ≡ set (lists_of next heads) t (drop 1 (list_at (lists_of next heads) t))
lists_of-pop next heads t head then l e some is =
    let new : Head = record { first = then; count = head.count - 1 } in
    map-set (list_of next) heads t new
    ∙ ap (λ stages. set (lists_of next heads) t stages)
    (ap (walk (head.count - 1) next) is ∙ walk-rest head.count next head.first some ∙ ap (drop 1) (sym (list_at-head next heads t head l e)))

pub AreLinks-pop : (next : List ℕ) (heads : List Head) (t : ℕ) (head : Head) (then : ℕ) → t < length heads → head ≡ get_or heads t head → (head.count ≡ 0 → ⊥) → then ≡ slice_index next head.first →
    AreLinks next heads → AreLinks next (set heads t (record { first = then; count = head.count - 1 }))
AreLinks-pop next heads t head then l e some is h =
    let new : Head = record { first = then; count = head.count - 1 } in
    let P : List ℕ → Type 0 = λ stages. All (λ i. i < length next) stages in
    let Q : List (List ℕ) → Type 0 = λ lists. All P lists in
    let fewer : P (drop 1 (list_at (lists_of next heads) t)) = All-drop (λ i. i < length next) 1 (list_at (lists_of next heads) t) (at_within (lists_of next heads) P t h.within (none_below (length next))) in
    record {
      all_heads = length-set heads t new ∙ h.all_heads;
      within = subst Q (sym (lists_of-pop next heads t head then l e some is)) (All-set P (lists_of next heads) t (drop 1 (list_at (lists_of next heads) t)) fewer h.within);
    }

-- ---- all out at once

pub lists_of-clear : (next : List ℕ) (heads : List Head) (t : ℕ) → lists_of next (set heads t (record { first = 0; count = 0 })) ≡ set (lists_of next heads) t []
lists_of-clear next heads t = map-set (list_of next) heads t (record { first = 0; count = 0 })

pub AreLinks-clear : (next : List ℕ) (heads : List Head) (t : ℕ) → AreLinks next heads → AreLinks next (set heads t (record { first = 0; count = 0 }))
AreLinks-clear next heads t h =
    let P : List ℕ → Type 0 = λ stages. All (λ i. i < length next) stages in
    record {
      all_heads = length-set heads t (record { first = 0; count = 0 }) ∙ h.all_heads;
      within = subst (λ lists. All P lists) (sym (lists_of-clear next heads t)) (All-set P (lists_of next heads) t [] (none_below (length next)) h.within);
    }

-- nothing is taken out of an empty list
pub lists_of-pop_none : (next : List ℕ) (heads : List Head) (t : ℕ) (head : Head) → t < length heads → head ≡ get_or heads t head → head.count ≡ 0 →
    lists_of next heads ≡ set (lists_of next heads) t (drop 1 (list_at (lists_of next heads) t))
lists_of-pop_none next heads t head l e none =
    let empty : list_at (lists_of next heads) t ≡ [] = list_at-head next heads t head l e ∙ ap (λ n. walk n next head.first) none in
    same_set (lists_of next heads) t empty
  where
    same_set : (lists : List (List ℕ)) (i : ℕ) → list_at lists i ≡ [] → lists ≡ set lists i (drop 1 (list_at lists i))
    same_set [] i e = refl
    same_set (x ∷ lists) zero e = ap (λ xs. xs ∷ lists) (e ∙ sym (ap (drop 1) e))
    same_set (x ∷ lists) (suc i) e = ap (λ r. x ∷ r) (same_set lists i e)

pub none_listed : (next : List ℕ) (heads : List Head) (t : ℕ) (head : Head) → t < length heads → head ≡ get_or heads t head → head.count ≡ 0 → slice_get (list_at (lists_of next heads) t) 0 ≡ None
none_listed next heads t head l e none = ap (λ xs. slice_get xs 0) (list_at-head next heads t head l e ∙ ap (λ n. walk n next head.first) none)

-- a list has a stage where its head counts one
pub has_listed : (next : List ℕ) (heads : List Head) (t : ℕ) (head : Head) → t < length heads → head ≡ get_or heads t head → nat_lt 0 head.count ≡ is_some (slice_get (list_at (lists_of next heads) t) 0)
has_listed next heads t head l e = sym (ap (λ xs. is_some (slice_get xs 0)) (list_at-head next heads t head l e) ∙ by_count head.count)
  where
    by_count : (n : ℕ) → is_some (slice_get (walk n next head.first) 0) ≡ nat_lt 0 n
    by_count zero = refl
    by_count (suc n) = let yes : nat_lt 0 (suc n) ≡ true = grind (arith, nat_tests) in sym yes

-- ---- at first

pub lists_of-empty : (next : List ℕ) (n : ℕ) → lists_of next (replicate n (record { first = 0; count = 0 })) ≡ replicate n []
lists_of-empty next zero = refl
lists_of-empty next (suc n) = ap (λ r. [] ∷ r) (lists_of-empty next n)

pub AreLinks-empty : (next : List ℕ) (n : ℕ) → n ≡ length next → AreLinks next (replicate n (record { first = 0; count = 0 }))
AreLinks-empty next n all =
    let head : Head = record { first = 0; count = 0 } in
    let P : List ℕ → Type 0 = λ stages. All (λ i. i < length next) stages in
    let Q : List (List ℕ) → Type 0 = λ lists. All P lists in
    record {
      all_heads = length-replicate n head ∙ all;
      within = subst Q (sym (lists_of-empty next n)) (All-replicate P n [] (none_below (length next)));
    }
