-- Dependents are the converse of sources.
use Rattle.std.proofs.Common.{◌≡◌, ℕ, ◌+◌, ◌<◌, ◌≤◌, ◌∷◌, ◌++◌, [], List, All, length, suc, zero, arith, ap, sym, refl, ◌∙◌, ⊎_elim, append_assoc, length-append}
use Rattle.std.specs.Prelude.{replicate, ◌==◌, cond}
use Rattle.std.specs.List.{sum_by, range_with_len, Contains}
use Rattle.std.proofs.lemmas.List.{length-replicate}
use Rattle.std.proofs.lemmas.List.Elements.{All-nil, All-head, All-tail, All-append, All-replicate}
use Rattle.std.proofs.lemmas.List.Sums.{sum_by-append, sum_by-cons}
use Rattle.std.proofs.lemmas.List.Concat.{length-flat_map}
use Rattle.std.proofs.lemmas.Bool.{cases_eq, cases_lt, eq-eqb, ne_eqb}
use Rattle.cf_forms.specs.Plans.{PlannedStage, HasLowerSources, IsRising, dependents_from, dependents_of, edges_of, mentions, sources_at}
use Rattle.cf_plan.specs.Rows.{all_sources}

-- how often one number is i
abbrev pub one_where : ℕ → ℕ → ℕ
one_where i j = cond (j == i) 1 0

pub mentions-append : (i : ℕ) (xs ys : List ℕ) → mentions i (xs ++ ys) ≡ mentions i xs + mentions i ys
mentions-append i xs ys = sum_by-append (λ j. one_where i j) xs ys

pub mentions-cons : (i x : ℕ) (xs : List ℕ) → mentions i (x ∷ xs) ≡ one_where i x + mentions i xs
mentions-cons i x xs = sum_by-cons (λ j. one_where i j) x xs

pub one_where_same : (i : ℕ) → one_where i i ≡ 1
one_where_same i = let e = eq-eqb i i refl in rw e refl

pub one_where_other : (i x : ℕ) → (x ≡ i → ⊥) → one_where i x ≡ 0
one_where_other i x ne = let e = ne_eqb x i ne in rw e refl

-- a list without i doesn't mention it
pub mentions_none : (i : ℕ) (xs : List ℕ) → All (λ j. j ≡ i → ⊥) xs → mentions i xs ≡ 0
mentions_none i [] h = refl
mentions_none i (x ∷ xs) h =
    let Other : ℕ → Type 0 = λ j. j ≡ i → ⊥ in
    let first = one_where_other i x (All-head Other x xs h) in
    let rest = mentions_none i xs (All-tail Other x xs h) in
    omega (arith, mentions-cons i x xs)

pub mentions-replicate : (k n : ℕ) → mentions k (replicate n k) ≡ n
mentions-replicate k zero = refl
mentions-replicate k (suc n) = omega (arith, mentions-cons k k (replicate n k), one_where_same k, mentions-replicate k n)

-- dependents stand at or above the first stage here, and below its end
pub dependents_not_below : (k : ℕ) (stages : List PlannedStage) (i : ℕ) → All (λ d. k ≤ d) (dependents_from k stages i)
dependents_not_below k [] i = All-nil (λ d. k ≤ d)
dependents_not_below k (s ∷ stages) i =
    let P : ℕ → Type 0 = λ d. k ≤ d in
    let rest = dependents_not_below (k + 1) stages i in
    All-append P (replicate (mentions i s.sources) k) (dependents_from (k + 1) stages i)
    (All-replicate P (mentions i s.sources) k (omega arith)) (λ m d l. let b = rest m d l in omega arith)

pub dependents_below : (k : ℕ) (stages : List PlannedStage) (i : ℕ) → All (λ d. d < k + length stages) (dependents_from k stages i)
dependents_below k [] i = All-nil (λ d. d < k + 0)
dependents_below k (s ∷ stages) i =
    let P : ℕ → Type 0 = λ d. d < k + length (s ∷ stages) in
    let rest = dependents_below (k + 1) stages i in
    All-append P (replicate (mentions i s.sources) k) (dependents_from (k + 1) stages i)
    (All-replicate P (mentions i s.sources) k (omega arith)) (λ m d l. let b = rest m d l in omega arith)

-- a stage whose sources are all below it doesn't name one that isn't
lower_unmentioned : (i k : ℕ) (sources : List ℕ) → All (λ j. j < k) sources → k ≤ i → mentions i sources ≡ 0
lower_unmentioned i k sources h le = mentions_none i sources (λ m d l e. let b = h m d l in omega arith)

-- dependents stand above the stage that they depend on
pub dependents_above : (k : ℕ) (stages : List PlannedStage) (i : ℕ) → HasLowerSources k stages → All (λ d. i < d) (dependents_from k stages i)
dependents_above k [] i h = All-nil (λ d. i < d)
dependents_above k (s ∷ stages) i h =
    let P : ℕ → Type 0 = λ d. i < d in
    let n = mentions i s.sources in
    let here : All P (replicate n k) =
    ⊎_elim (λ (lt : i < k). All-replicate P n k lt)
    (λ (le : k ≤ i). let none : n ≡ 0 = lower_unmentioned i k s.sources h.0 le in rw none (All-nil P)) (cases_lt i k) in
    All-append P (replicate n k) (dependents_from (k + 1) stages i) here (dependents_above (k + 1) stages i h.1)

rising_replicate : (k n : ℕ) (rest : List ℕ) → All (λ d. k ≤ d) rest → IsRising rest → IsRising (replicate n k ++ rest)
rising_replicate k zero rest h r = r
rising_replicate k (suc n) rest h r =
    let P : ℕ → Type 0 = λ d. k ≤ d in
    (All-append P (replicate n k) rest (All-replicate P n k (omega arith)) h, rising_replicate k n rest h r)

-- dependents stand in rising order
pub dependents_rising : (k : ℕ) (stages : List PlannedStage) (i : ℕ) → IsRising (dependents_from k stages i)
dependents_rising k [] i = tt
dependents_rising k (s ∷ stages) i =
    let rest = dependents_not_below (k + 1) stages i in
    rising_replicate k (mentions i s.sources) (dependents_from (k + 1) stages i) (λ m d l. let b = rest m d l in omega arith) (dependents_rising (k + 1) stages i)

-- a stage stands among the dependents of stage i as often as its sources name stage i
pub dependents_converse_from : (k : ℕ) (stages : List PlannedStage) (i m : ℕ) → mentions (k + m) (dependents_from k stages i) ≡ mentions i (sources_at stages m)
dependents_converse_from k [] i m = refl
dependents_converse_from k (s ∷ stages) i zero =
    let n = mentions i s.sources in
    let rest = dependents_from (k + 1) stages i in
    let above = dependents_not_below (k + 1) stages i in
    let none : mentions k rest ≡ 0 = mentions_none k rest (λ m d l e. let b = above m d l in omega arith) in
    let here : mentions i (sources_at (s ∷ stages) zero) ≡ n = refl in
    let whole : mentions k (replicate n k ++ rest) ≡ n = omega (arith, mentions-append k (replicate n k) rest, mentions-replicate k n) in
    let same : k + zero ≡ k = omega arith in
    rw same whole
dependents_converse_from k (s ∷ stages) i (suc m) =
    let n = mentions i s.sources in
    let rest = dependents_from (k + 1) stages i in
    let Other : ℕ → Type 0 = λ d. d ≡ k + suc m → ⊥ in
    let none : mentions (k + suc m) (replicate n k) ≡ 0 = mentions_none (k + suc m) (replicate n k) (All-replicate Other n k (λ e. omega arith)) in
    let same : k + 1 + m ≡ k + suc m = omega arith in
    let back : mentions (k + suc m) rest ≡ mentions i (sources_at stages m) = rw same at (dependents_converse_from (k + 1) stages i m) in
    omega (arith, mentions-append (k + suc m) (replicate n k) rest)

pub dependents_converse : (stages : List PlannedStage) (i k : ℕ) → mentions k (dependents_of stages i) ≡ mentions i (sources_at stages k)
dependents_converse stages i k =
    let same : 0 + k ≡ k = omega arith in
    rw same at (dependents_converse_from 0 stages i k)

-- stages, and more behind them
pub dependents_from-append : (k : ℕ) (xs ys : List PlannedStage) (i : ℕ) → dependents_from k (xs ++ ys) i ≡ dependents_from k xs i ++ dependents_from (k + length xs) ys i
dependents_from-append k [] ys i = let e : k + 0 ≡ k = omega arith in ap (λ m. dependents_from m ys i) (sym e)
dependents_from-append k (x ∷ xs) ys i =
    let e : k + 1 + length xs ≡ k + suc (length xs) = omega arith in
    ap (λ r. replicate (mentions i x.sources) k ++ r) (dependents_from-append (k + 1) xs ys i ∙ ap (λ m. dependents_from (k + 1) xs i ++ dependents_from m ys i) e)
    ∙ sym (append_assoc (replicate (mentions i x.sources) k) (dependents_from (k + 1) xs i) (dependents_from (k + suc (length xs)) ys i))

-- a stage has as many dependents as sources of all stages name it
pub length-dependents_from : (k : ℕ) (stages : List PlannedStage) (i : ℕ) → length (dependents_from k stages i) ≡ mentions i (all_sources stages)
length-dependents_from k [] i = refl
length-dependents_from k (s ∷ stages) i =
    omega (
      arith,
      length-append (replicate (mentions i s.sources) k) (dependents_from (k + 1) stages i),
      length-replicate (mentions i s.sources) k,
      length-dependents_from (k + 1) stages i,
      mentions-append i s.sources (all_sources stages),
    )

-- sources that are lower are below the number of stages
pub all_sources_below : (k : ℕ) (stages : List PlannedStage) → HasLowerSources k stages → All (λ j. j < k + length stages) (all_sources stages)
all_sources_below k [] h = All-nil (λ j. j < k + 0)
all_sources_below k (s ∷ stages) h =
    let P : ℕ → Type 0 = λ j. j < k + length (s ∷ stages) in
    let rest = all_sources_below (k + 1) stages h.1 in
    All-append P s.sources (all_sources stages) (λ m d l. let b = h.0 m d l in omega arith) (λ m d l. let b = rest m d l in omega arith)

-- the sum of two
sum_by_both : (f g h : ℕ → ℕ) → ((x : ℕ) → h x ≡ f x + g x) → (xs : List ℕ) → sum_by h xs ≡ sum_by f xs + sum_by g xs
sum_by_both f g h e [] = refl
sum_by_both f g h e (x ∷ xs) =
    omega (arith, sum_by-cons f x xs, sum_by-cons g x xs, sum_by-cons h x xs, e x, sum_by_both f g h e xs)

sum_by_none : (xs : List ℕ) → sum_by (λ x. 0) xs ≡ 0
sum_by_none [] = refl
sum_by_none (x ∷ xs) = omega (arith, sum_by-cons (λ (y : ℕ). 0) x xs, sum_by_none xs)

-- a number that isn't in the range is none of it
past_range : (x a n : ℕ) → x < a → sum_by (λ i. one_where i x) (range_with_len a n) ≡ 0
past_range x a zero lt = refl
past_range x a (suc n) lt =
    omega (arith, sum_by-cons (λ i. one_where i x) a (range_with_len (a + 1) n), one_where_other a x (λ e. omega arith), past_range x (a + 1) n (omega arith))

-- a number in the range is one of it
once_in_range : (x a n : ℕ) → a ≤ x → x < a + n → sum_by (λ i. one_where i x) (range_with_len a n) ≡ 1
once_in_range x a zero le lt = absurd (omega arith)
once_in_range x a (suc n) le lt =
    let cut = sum_by-cons (λ i. one_where i x) a (range_with_len (a + 1) n) in
    ⊎_elim (λ (more : a < x). omega (arith, cut, one_where_other a x (λ e. omega arith), once_in_range x (a + 1) n (omega arith) (omega arith)))
    (λ (rest : x ≤ a).
    let same : x ≡ a = omega arith in
    let here : one_where a x ≡ 1 = rw same (one_where_same a) in
    omega (arith, cut, past_range x (a + 1) n (omega arith))) (cases_lt a x)

-- each element below n is one of the first n numbers
pub mentions_in_all : (n : ℕ) (xs : List ℕ) → All (λ j. j < n) xs → sum_by (λ i. mentions i xs) (range_with_len 0 n) ≡ length xs
mentions_in_all n [] h = sum_by_none (range_with_len 0 n)
mentions_in_all n (x ∷ xs) h =
    let P : ℕ → Type 0 = λ j. j < n in
    let lt : x < n = All-head P x xs h in
    omega (
      arith,
      sum_by_both (λ i. one_where i x) (λ i. mentions i xs) (λ i. mentions i (x ∷ xs)) (λ i. mentions-cons i x xs) (range_with_len 0 n),
      once_in_range x 0 n (omega arith) (omega arith),
      mentions_in_all n xs (All-tail P x xs h),
    )

sum_by_same : (f g : ℕ → ℕ) → ((x : ℕ) → f x ≡ g x) → (xs : List ℕ) → sum_by f xs ≡ sum_by g xs
sum_by_same f g e [] = refl
sum_by_same f g e (x ∷ xs) = omega (arith, sum_by-cons f x xs, sum_by-cons g x xs, e x, sum_by_same f g e xs)

-- the stages' dependents together are as many as the edges
pub all_dependents : (stages : List PlannedStage) → HasLowerSources 0 stages → sum_by (λ i. length (dependents_of stages i)) (range_with_len 0 (length stages)) ≡ edges_of stages
all_dependents stages h =
    let n = length stages in
    let edges : length (all_sources stages) ≡ edges_of stages = length-flat_map (λ (s : PlannedStage). s.sources) stages in
    let counted = sum_by_same (λ i. length (dependents_of stages i)) (λ i. mentions i (all_sources stages)) (λ i. length-dependents_from 0 stages i) (range_with_len 0 n) in
    let below = all_sources_below 0 stages h in
    let whole = mentions_in_all n (all_sources stages) (λ m d l. let b = below m d l in omega arith) in
    counted ∙ whole ∙ edges

-- dependents are stages that there are
pub dependents_there : (stages : List PlannedStage) (i : ℕ) → All (λ d. d < length stages) (dependents_of stages i)
dependents_there stages i = λ m d l. let b = dependents_below 0 stages i m d l in omega arith

-- a number is in a list exactly where the list mentions it
pub mentions_from_contains : (i : ℕ) (xs : List ℕ) → Contains xs i → 0 < mentions i xs
mentions_from_contains i [] (k, lt, at) = absurd (omega arith)
mentions_from_contains i (x ∷ xs) (zero, lt, at) =
    let one : one_where i x ≡ 1 = rw at (one_where_same i) in
    omega (arith, mentions-cons i x xs)
mentions_from_contains i (x ∷ xs) (suc k, lt, at) =
    let rest = mentions_from_contains i xs (k, omega arith, at) in
    omega (arith, mentions-cons i x xs)

pub contains_from_mentions : (i : ℕ) (xs : List ℕ) → 0 < mentions i xs → Contains xs i
contains_from_mentions i [] h = absurd (omega arith)
contains_from_mentions i (x ∷ xs) h =
    ⊎_elim (λ (e : x ≡ i). (0, omega arith, e))
    (λ (ne : x ≡ i → ⊥).
    let rest = contains_from_mentions i xs (omega (arith, mentions-cons i x xs, one_where_other i x ne)) in
    (suc rest.0, omega (arith, rest.1), rest.2)) (cases_eq x i)

-- each stage that names stage i is among its dependents
pub dependents_complete : (stages : List PlannedStage) (i k : ℕ) → Contains (sources_at stages k) i → Contains (dependents_of stages i) k
dependents_complete stages i k h =
    contains_from_mentions k (dependents_of stages i) (omega (arith, mentions_from_contains i (sources_at stages k) h, dependents_converse stages i k))

-- and each dependent names it
pub dependents_sound : (stages : List PlannedStage) (i k : ℕ) → Contains (dependents_of stages i) k → Contains (sources_at stages k) i
dependents_sound stages i k h =
    contains_from_mentions i (sources_at stages k) (omega (arith, mentions_from_contains k (dependents_of stages i) h, dependents_converse stages i k))
