-- When a join is decided, and by which stage.
use Rattle.std.proofs.Common.{◌≡◌, ◌≢◌, ℕ, zero, suc, ◌+◌, ◌-◌, ◌<◌, ◌≤◌, ◌||◌, Bool, true, false, cond, Option, Some, None, List, [], ◌∷◌, ◌++◌, All, Contains, drop, get_or, length, take, refl, ap, sym, ◌∙◌, arith, subst, inl, inr, ◌⊎◌}
use Rattle.std.specs.Prelude.{◌==◌, IfSome, is_some}
use Rattle.std.specs.List.{count_by}
use Rattle.std.proofs.Math.Seq.{split_at}
use Rattle.std.proofs.lemmas.Bool.{cases_eq, eq-eqb, ne_eqb}
use Rattle.std.proofs.lemmas.List.Elements.{All-contains, Contains-append_right}
use Rattle.std.proofs.lemmas.List.Sums.{sum_by-append}
use Rattle.cf_outcome.specs.declared.outcome.Outcome.{Outcome}
use Rattle.cf_outcome.specs.declared.outcome.Outcome.TheVariants.{Value as Gives, Fault}
use Rattle.cf_model.specs.declared.stage.Stage.{Stage}
use Rattle.cf_model.specs.States.{State, outcome_in}
use Rattle.cf_request.specs.Joins.{IsDecided, IsJoin, IsUndecided, failures_by, has_failed, has_value, is_among, outcome_among, sources_of, times_in, values_by}
use Rattle.cf_request.specs.Telling.{IsApart, IsOnce, is_settled_in}
use Rattle.cf_request.specs.declared.joins.Join.{Join}
use Rattle.cf_request.proofs.Lists.{contains_cases}

pub none_is : (o : Option Outcome) → is_some o ≡ false → o ≡ None
none_is None h = refl
none_is (Some o) h = cc

-- ---- counts

abbrev one_if : Bool → ℕ
one_if b = cond b 1 0

pub count_cons : (p : ℕ → Bool) (x : ℕ) (xs : List ℕ) → count_by p (x ∷ xs) ≡ one_if (p x) + count_by p xs
count_cons p x xs = let all = sum_by-append (λ y. one_if (p y)) (x ∷ []) xs in omega (arith, all)

pub count_push : (p : ℕ → Bool) (xs : List ℕ) (x : ℕ) → count_by p (xs ++ x ∷ []) ≡ count_by p xs + one_if (p x)
count_push p xs x = let all = sum_by-append (λ y. one_if (p y)) xs (x ∷ []) in omega (arith, all)

-- where stages have the same outcomes
pub count_same : (p : Option Outcome → Bool) (f g : ℕ → Option Outcome) (xs : List ℕ) → All (λ i. g i ≡ f i) xs → count_by (λ i. p (g i)) xs ≡ count_by (λ i. p (f i)) xs
count_same p f g [] h = refl
count_same p f g (x ∷ xs) h =
    let one = ap (λ (o : Option Outcome). one_if (p o)) (h 0 0 (omega arith)) in
    let rest = count_same p f g xs (λ k d l. h (suc k) d (omega (arith, l))) in
    let was = count_cons (λ i. p (f i)) x xs in
    let now = count_cons (λ i. p (g i)) x xs in
    omega (arith, one, rest, was, now)

pub undecided_same : (f g : ℕ → Option Outcome) (j : Join) → All (λ i. g i ≡ f i) (sources_of j) → IsUndecided f j → IsUndecided g j
undecided_same f g j same h =
    let v = count_same has_value f g (sources_of j) same in
    let w = count_same has_failed f g (sources_of j) same in
    let a = h.values in
    let b = h.failures in
    record { values = omega (arith, v, a); failures = omega (arith, w, b) }

-- ---- one more settled stage

or_assoc : (a b c : Bool) → (a || b) || c ≡ a || (b || c)
or_assoc true b c = refl
or_assoc false b c = refl

among_push : (xs : List ℕ) (i s : ℕ) → is_among (xs ++ i ∷ []) s ≡ is_among xs s || ((i == s) || false)
among_push [] i s = refl
among_push (x ∷ xs) i s = ap (λ (b : Bool). (x == s) || b) (among_push xs i s) ∙ sym (or_assoc (x == s) (is_among xs s) ((i == s) || false))

or_off : (a : Bool) → a || (false || false) ≡ a
or_off true = refl
or_off false = refl

abbrev so_much : Bool → ℕ → ℕ
so_much b n = cond b n 0

nothing : (b : Bool) → so_much b 0 ≡ 0
nothing true = refl
nothing false = refl

push_it : (p : Option Outcome → Bool) (stages : List Stage) (front : List ℕ) (i : ℕ) → p None ≡ false → is_among front i ≡ false →
    one_if (p (outcome_among stages (front ++ i ∷ []) i)) ≡ one_if (p (outcome_among stages front i)) + cond (p (outcome_in stages i)) (one_if (i == i)) 0
push_it p stages front i none off =
    let it : (i == i) ≡ true = eq-eqb i i refl in
    let on : is_among (front ++ i ∷ []) i ≡ true = among_push front i i ∙ ap (λ (b : Bool). b || ((i == i) || false)) off ∙ ap (λ (b : Bool). b || false) it in
    let now : p (outcome_among stages (front ++ i ∷ []) i) ≡ p (outcome_in stages i) = ap (λ (b : Bool). p (cond b (outcome_in stages i) None)) on in
    let was : p (outcome_among stages front i) ≡ false = ap (λ (b : Bool). p (cond b (outcome_in stages i) None)) off ∙ none in
    let a = ap one_if now in
    let b = ap one_if was in
    let e : cond (p (outcome_in stages i)) (one_if (i == i)) 0 ≡ one_if (p (outcome_in stages i)) = ap (λ (b : Bool). cond (p (outcome_in stages i)) (one_if b) 0) it in
    omega (arith, a, b, e)

-- another stage more is nothing to one
pub among_other : (xs : List ℕ) (i s : ℕ) → s ≢ i → is_among (xs ++ i ∷ []) s ≡ is_among xs s
among_other xs i s other = among_push xs i s ∙ ap (λ (b : Bool). is_among xs s || (b || false)) (ne_eqb i s (λ e. other (sym e))) ∙ or_off (is_among xs s)

push_other : (p : Option Outcome → Bool) (stages : List Stage) (front : List ℕ) (i s : ℕ) → p None ≡ false → s ≢ i →
    one_if (p (outcome_among stages (front ++ i ∷ []) s)) ≡ one_if (p (outcome_among stages front s)) + cond (p (outcome_in stages i)) (one_if (s == i)) 0
push_other p stages front i s none other =
    let en : (s == i) ≡ false = ne_eqb s i other in
    let same = among_other front i s other in
    let now = ap (λ (b : Bool). one_if (p (cond b (outcome_in stages s) None))) same in
    let e : cond (p (outcome_in stages i)) (one_if (s == i)) 0 ≡ 0 = ap (λ (b : Bool). cond (p (outcome_in stages i)) (one_if b) 0) en ∙ nothing (p (outcome_in stages i)) in
    omega (arith, now, e)

-- what one stage adds
push_here : (p : Option Outcome → Bool) (stages : List Stage) (front : List ℕ) (i s : ℕ) → p None ≡ false → is_among front i ≡ false →
    one_if (p (outcome_among stages (front ++ i ∷ []) s)) ≡ one_if (p (outcome_among stages front s)) + cond (p (outcome_in stages i)) (one_if (s == i)) 0
push_here p stages front i s none off = elim (cases_eq s i) [
  | inl same ↦ subst (λ (k : ℕ). one_if (p (outcome_among stages (front ++ i ∷ []) k)) ≡ one_if (p (outcome_among stages front k)) + cond (p (outcome_in stages i)) (one_if (k == i)) 0) (sym same)
      (push_it p stages front i none off)
  | inr other ↦ push_other p stages front i s none other
]

both_times : (b : Bool) (m n : ℕ) → so_much b (m + n) ≡ so_much b m + so_much b n
both_times true m n = refl
both_times false m n = omega arith

pub count_more : (p : Option Outcome → Bool) (stages : List Stage) (front : List ℕ) (i : ℕ) (sources : List ℕ) → p None ≡ false → is_among front i ≡ false →
    count_by (λ s. p (outcome_among stages (front ++ i ∷ []) s)) sources ≡ count_by (λ s. p (outcome_among stages front s)) sources + cond (p (outcome_in stages i)) (times_in i sources) 0
count_more p stages front i [] none off = let e = nothing (p (outcome_in stages i)) in omega (arith, e)
count_more p stages front i (s ∷ sources) none off =
    let one = push_here p stages front i s none off in
    let rest = count_more p stages front i sources none off in
    let was = count_cons (λ k. p (outcome_among stages front k)) s sources in
    let now = count_cons (λ k. p (outcome_among stages (front ++ i ∷ []) k)) s sources in
    let times = ap (λ (n : ℕ). cond (p (outcome_in stages i)) n 0) (count_cons (λ k. k == i) s sources) in
    let both = both_times (p (outcome_in stages i)) (one_if (s == i)) (times_in i sources) in
    omega (arith, one, rest, was, now, times, both)

pub take_next : (k : ℕ) (xs : List ℕ) → k < length xs → take (k + 1) xs ≡ take k xs ++ get_or xs k 0 ∷ []
take_next k [] l = absurd (omega (arith, l))
take_next zero (x ∷ xs) l = refl
take_next (suc k) (x ∷ xs) l =
    let next : suc (k + 1) ≡ suc k + 1 = omega arith in
    subst (λ (m : ℕ). take m (x ∷ xs) ≡ take (suc k) (x ∷ xs) ++ get_or (x ∷ xs) (suc k) 0 ∷ []) next (ap (λ (l : List ℕ). x ∷ l) (take_next k xs (omega (arith, l))))

-- a stage isn't among those before it
pub apart_front : (front back : List ℕ) (i : ℕ) → IsApart (front ++ i ∷ back) → is_among front i ≡ false
apart_front [] back i h = refl
apart_front (x ∷ front) back i h =
    let other = All-contains (λ (y : ℕ). x ≢ y) (front ++ i ∷ back) i h.0 (Contains-append_right front (i ∷ back) i (0, omega arith, refl)) in
    ap (λ (b : Bool). b || is_among front i) (ne_eqb x i other) ∙ apart_front front back i h.1

pub apart_at : (xs : List ℕ) (k d : ℕ) → k < length xs → IsApart xs → is_among (take k xs) (get_or xs k d) ≡ false
apart_at xs k d l h = apart_front (take k xs) (drop (suc k) xs) (get_or xs k d) (subst IsApart (split_at xs k d l) h)

pub take_last : (place : ℕ) (xs : List ℕ) → 0 < place → place ≤ length xs → take place xs ≡ take (place - 1) xs ++ get_or xs (place - 1) 0 ∷ []
take_last place xs some l =
    let next : place ≡ place - 1 + 1 = omega (arith, some) in
    ap (λ (n : ℕ). take n xs) next ∙ take_next (place - 1) xs (omega (arith, some, l))

-- what is counted is no less than the stage before a place, and without it is what is counted before
pub counted_back : (p : Option Outcome → Bool) (stages : List Stage) (order row : List ℕ) (place : ℕ) (sources : List ℕ) (o : Option Outcome) (all times before : ℕ) → p None ≡ false → row ≡ order → 0 < place → place ≤ length order → IsApart order →
    all ≡ count_by (λ s. p (outcome_among stages (take place order) s)) sources → o ≡ outcome_in stages (get_or row (place - 1) 0) → times ≡ times_in (get_or row (place - 1) 0) sources →
    (cond (p o) times 0 ≤ all) × (all ≡ before + cond (p o) times 0 → before ≡ count_by (λ s. p (outcome_among stages (take (place - 1) order) s)) sources)
counted_back p stages order row place sources o all times before none same some l apart counted outcome is =
    let k = place - 1 in
    let it : get_or row k 0 ≡ get_or order k 0 = ap (λ (l : List ℕ). get_or l k 0) same in
    let i = get_or order k 0 in
    let last = ap (λ (l : List ℕ). count_by (λ s. p (outcome_among stages l s)) sources) (take_last place order some l) in
    let more = count_more p stages (take k order) i sources none (apart_at order k 0 (omega (arith, some, l)) apart) in
    let here : cond (p o) times 0 ≡ cond (p (outcome_in stages i)) (times_in i sources) 0 =
    ap (λ (x : Option Outcome). cond (p x) times 0) (outcome ∙ ap (outcome_in stages) it) ∙ ap (λ (n : ℕ). cond (p (outcome_in stages i)) n 0) (is ∙ ap (λ (x : ℕ). times_in x sources) it) in (
      omega (arith, counted, last, more, here),
      λ left. omega (arith, counted, last, more, here, left),
    )

-- where none is settled, nothing is counted
pub count_none : (p : Option Outcome → Bool) (sources : List ℕ) → p None ≡ false → count_by (λ s. p (None)) sources ≡ 0
count_none p [] none = refl
count_none p (s ∷ sources) none =
    let one = ap one_if none in
    let rest = count_none p sources none in
    let all = count_cons (λ k. p None) s sources in
    omega (arith, one, rest, all)

pub undecided_first : (stages : List Stage) (n : ℕ) (j : Join) → IsJoin n j → IsUndecided (outcome_among stages []) j
undecided_first stages n j h =
    let v = count_none has_value (sources_of j) refl in
    let w = count_none has_failed (sources_of j) refl in
    let a = h.some in
    let b = h.enough in
    record { values = omega (arith, v, a); failures = omega (arith, w, b) }

-- ---- all settled stages

or_true : (b : Bool) → b || true ≡ true
or_true true = refl
or_true false = refl

among_there : (xs : List ℕ) (i : ℕ) → Contains xs i → is_among xs i ≡ true
among_there [] i (k, l, e) = absurd (omega (arith, l))
among_there (x ∷ xs) i h = elim (contains_cases x i xs h) [
  | inl same ↦ ap (λ (b : Bool). b || is_among xs i) (eq-eqb x i same)
  | inr rest ↦ ap (λ (b : Bool). (x == i) || b) (among_there xs i rest) ∙ or_true (x == i)
]

bools : (b : Bool) → (b ≡ true) ⊎ (b ≡ false)
bools true = inl refl
bools false = inr refl

always : (b : Bool) → cond b None None ≡ (let n : Option Outcome = None in n)
always true = refl
always false = refl

pub among_all : (s : State) (settled : List ℕ) (i : ℕ) → IsOnce s settled → outcome_in s.stages i ≡ outcome_among s.stages settled i
among_all s settled i once = elim (bools (is_settled_in s.stages i)) [
  | inl is ↦ sym (ap (λ (b : Bool). cond b (outcome_in s.stages i) None) (among_there settled i (once.all i is)))
  | inr isnt ↦ (let none = none_is (outcome_in s.stages i) isnt in
      none ∙ sym (ap (λ (o : Option Outcome). cond (is_among settled i) o None) none ∙ always (is_among settled i)))
]

-- so as much is counted
pub count_all : (p : Option Outcome → Bool) (s : State) (settled : List ℕ) (sources : List ℕ) → IsOnce s settled → count_by (λ i. p (outcome_in s.stages i)) sources ≡ count_by (λ i. p (outcome_among s.stages settled i)) sources
count_all p s settled sources once = count_same p (outcome_among s.stages settled) (outcome_in s.stages) sources (λ k d l. among_all s settled (get_or sources k d) once)

-- what is undecided by all settled stages is undecided
pub undecided_all : (s : State) (settled : List ℕ) (j : Join) → IsOnce s settled → IsUndecided (outcome_among s.stages settled) j → IsUndecided (outcome_in s.stages) j
undecided_all s settled j once h = undecided_same (outcome_among s.stages settled) (outcome_in s.stages) j (λ k d l. among_all s settled (get_or (sources_of j) k d) once) h

-- ---- one source

one_of : (p : Option Outcome → Bool) (f : ℕ → Option Outcome) (i : ℕ) → count_by (λ s. p (f s)) (i ∷ []) ≡ one_if (p (f i))
one_of p f i = let all = count_cons (λ s. p (f s)) i [] in omega (arith, all)

-- a join of one is undecided while its source is open
pub undecided_one : (f : ℕ → Option Outcome) (n : ℕ) (j : Join) → IsJoin n j → j.others.items ≡ [] → f j.source ≡ None → IsUndecided f j
undecided_one f n j h none open_still =
    let all : sources_of j ≡ j.source ∷ [] = ap (λ (l : List ℕ). j.source ∷ l) none in
    let size = ap (λ (l : List ℕ). length l) all in
    let v = ap (λ (l : List ℕ). values_by f l) all ∙ one_of has_value f j.source ∙ ap (λ (o : Option Outcome). one_if (has_value o)) open_still in
    let w = ap (λ (l : List ℕ). failures_by f l) all ∙ one_of has_failed f j.source ∙ ap (λ (o : Option Outcome). one_if (has_failed o)) open_still in
    let a = h.some in
    let b = h.enough in
    record { values = omega (arith, v, a); failures = omega (arith, w, b, size) }

either_one : (o : Outcome) → one_if (has_value (Some o)) + one_if (has_failed (Some o)) ≡ 1
either_one (Gives v) = refl
either_one (Fault cause wrapped) = refl

pub decided_one : (f : ℕ → Option Outcome) (n : ℕ) (j : Join) (o : Outcome) → IsJoin n j → j.others.items ≡ [] → f j.source ≡ Some o → IsUndecided f j → ⊥
decided_one f n j o h none is undecided =
    let all : sources_of j ≡ j.source ∷ [] = ap (λ (l : List ℕ). j.source ∷ l) none in
    let size = ap (λ (l : List ℕ). length l) all in
    let v = ap (λ (l : List ℕ). values_by f l) all ∙ one_of has_value f j.source ∙ ap (λ (o : Option Outcome). one_if (has_value o)) is in
    let w = ap (λ (l : List ℕ). failures_by f l) all ∙ one_of has_failed f j.source ∙ ap (λ (o : Option Outcome). one_if (has_failed o)) is in
    let one = either_one o in
    let a = h.some in
    let b = h.enough in
    let c = undecided.values in
    let d = undecided.failures in
    absurd (omega (arith, v, w, size, one, a, b, c, d))

pub at_there : (xs : List ℕ) (i : ℕ) (h : Contains xs i) → get_or xs h.0 0 ≡ i
at_there [] i (k, l, e) = absurd (omega (arith, l))
at_there (x ∷ xs) i (zero, l, e) = e
at_there (x ∷ xs) i (suc k, l, e) = at_there xs i (k, omega (arith, l), e)

-- and then decided by it
pub decided_by_it : (s : State) (settled : List ℕ) (n : ℕ) (j : Join) (o : Outcome) → IsOnce s settled → IsJoin n j → j.others.items ≡ [] → outcome_in s.stages j.source ≡ Some o → IsDecided s.stages settled j o
decided_by_it s settled n j o once h none is =
    let i = j.source in
    let there = once.all i (ap is_some is) in
    let k = there.0 in
    let l = there.1 in
    let it : get_or settled k 0 ≡ i = at_there settled i there in
    let front = take k settled in
    let back = drop (suc k) settled in
    let split : settled ≡ front ++ i ∷ back = subst (λ (x : ℕ). settled ≡ front ++ x ∷ back) it (split_at settled k 0 l) in
    let off = apart_front front back i (subst IsApart split once.apart) in
    let on : is_among (front ++ i ∷ []) i ≡ true = among_there (front ++ i ∷ []) i (Contains-append_right front (i ∷ []) i (0, omega arith, refl)) in
    record {
      front = front;
      by = i;
      back = back;
      is = split;
      before = undecided_one (outcome_among s.stages front) n j h none (ap (λ (b : Bool). cond b (outcome_in s.stages i) None) off);
      decides = decided_one (outcome_among s.stages (front ++ i ∷ [])) n j o h none (ap (λ (b : Bool). cond b (outcome_in s.stages i) None) on ∙ is);
      outcome = is;
    }

-- a join of one is decided by its source
decided_source : (stages : List Stage) (n : ℕ) (j : Join) (front : List ℕ) (by : ℕ) (x : Option Outcome) → IsJoin n j → j.others.items ≡ [] → outcome_among stages front j.source ≡ x → IsUndecided (outcome_among stages front) j →
    ¬ IsUndecided (outcome_among stages (front ++ by ∷ [])) j → j.source ≢ by → ⊥
decided_source stages n j front by (Some o) h none is before decides other = decided_one (outcome_among stages front) n j o h none is before
decided_source stages n j front by None h none is before decides other =
    decides (undecided_one (outcome_among stages (front ++ by ∷ [])) n j h none (ap (λ (b : Bool). cond b (outcome_in stages j.source) None) (among_other front by j.source other) ∙ is))

pub source_decides : (stages : List Stage) (settled : List ℕ) (n : ℕ) (j : Join) (o : Outcome) → IsJoin n j → j.others.items ≡ [] → IsDecided stages settled j o → outcome_in stages j.source ≡ Some o
source_decides stages settled n j o h none d = elim (cases_eq j.source d.by) [
  | inl same ↦ ap (outcome_in stages) same ∙ d.outcome
  | inr other ↦ absurd (decided_source stages n j d.front d.by (outcome_among stages d.front j.source) h none refl d.before d.decides other)
]

pub none_else : (i : ℕ) (xs : List ℕ) → length (i ∷ xs) ≡ 1 → xs ≡ []
none_else i [] h = refl
none_else i (x ∷ xs) h = absurd (omega (arith, h))

pub if_some : (o : Option Outcome) (P : Outcome → Type 0) → ((x : Outcome) → o ≡ Some x → P x) → IfSome o P
if_some None P h = tt
if_some (Some x) P h = h x refl
