-- What joins have to spare.
use Rattle.std.proofs.Common.{◌≡◌, ◌≢◌, ℕ, zero, suc, ◌+◌, ◌-◌, ◌<◌, ◌≤◌, Bool, true, false, cond, Option, Some, None, List, [], ◌∷◌, ◌++◌, All, Contains, drop, get_or, append-nil, append_assoc, length, length-append, length-drop, set, take, refl, ap, sym, ◌∙◌, arith, subst, inl, inr, ◌⊎◌}
use Rattle.std.specs.Prelude.{◌==◌, ◌&&◌, ◌||◌, is_some}
use Rattle.std.proofs.lemmas.Bool.{cases_eq, cases_lt, ne_eqb}
use Rattle.std.proofs.lemmas.List.{get_or-append-add, get_or-drop, get_or-set_other, get_or-set_same, length-set, take-append-le, take_all}
use Rattle.std.proofs.lemmas.List.Elements.{All-contains, All-nil, All-push, All-weaker}
use Rattle.cf_outcome.specs.declared.outcome.Outcome.{Outcome}
use Rattle.cf_model.specs.declared.stage.Stage.{Stage}
use Rattle.cf_model.specs.States.{State, outcome_in}
use Rattle.cf_request.specs.Joins.{IsUndecided, has_failed, has_value, is_among, outcome_among, sources_of, times_in}
use Rattle.cf_request.specs.Relays.{AreIn, AreLookedAt, AreMarked, MarksAll, NoneBehind, is_in_flags}
use Rattle.cf_request.specs.Tallies.{AreLed, AreLess, AreTallied, AreTalliedBy, Empties, HasLeft, HaveLeft, IsAlone, IsCounted, IsLessAt, IsSpared, IsSpent, IsTallied, MaySpare, Spends, TalliesFit, led_by, left_to, no_spare, spare_at}
use Rattle.cf_ledger.specs.Ledgers.{roomier, state_of}
use Rattle.cf_ledger.specs.declared.step.Finish.{Finish}
use Rattle.cf_ledger.specs.declared.step.Held.{Held}
use Rattle.cf_ledger.specs.declared.step.Taken.{Taken}
use Rattle.cf_ledger.specs.Steps.{finished_as}
use Rattle.cf_event.specs.Words.{word_of}
use Rattle.cf_model.specs.declared.events.Event.{Event}
use Rattle.cf_model.specs.declared.events.Event.TheVariants.{Claim as Claims, Finish as Finishes}
use Rattle.cf_model.specs.declared.events.Reply.{Reply}
use Rattle.cf_model.specs.declared.events.Reply.TheVariants.{Attach as ToldAttach, Claim as ToldClaim, Finish as ToldFinish}
use Rattle.cf_model.specs.declared.replies.Attached.TheVariants.{At}
use Rattle.cf_model.specs.declared.replies.Claimed.TheVariants.{Granted}
use Rattle.cf_ledger.specs.Ledgers.{stages_of}
use Rattle.cf_request.specs.Attaching.{TellsAttaches}
use Rattle.cf_request.specs.Lanes.{FinishesHeld, TakesIn}
use Rattle.cf_request.specs.Settling.{AreSettledInTurn, Settles, SettlesDue, settle_event}
use Rattle.cf_request.specs.Telling.{IsApart, IsOnce, Teller, Tells, is_settled_in, order_in, with_memory}
use Rattle.cf_request.specs.declared.settling.Due.{Due}
use Rattle.cf_request.specs.declared.tallies.Tallies.{Tallies}
use Rattle.cf_request.proofs.Telling.{next_is, stays}
use Rattle.cf_request.specs.declared.joins.Join.{Join}
use Rattle.cf_request.specs.declared.tallies.Spare.{Spare}
use Rattle.cf_request.proofs.Behind.{contains_or, flag_stays, marks_none, marks_one, tests}
use Rattle.cf_request.proofs.Decided.{at_there, count_all, count_cons, count_more, count_same, undecided_all}
use Rattle.cf_request.proofs.Lists.{apart_append, contains_cases, contains_head, contains_tail}

-- ---- one place is written

-- it has what was written, or what it had
pub set_or : (xs : List Spare) (f k : ℕ) (y : Spare) → ((k ≡ f) × (f < length xs) × (spare_at (set xs f y) k ≡ y)) ⊎ (spare_at (set xs f y) k ≡ spare_at xs k)
set_or [] f k y = inr refl
set_or (x ∷ xs) zero zero y = inl (refl, omega arith, refl)
set_or (x ∷ xs) zero (suc k) y = inr refl
set_or (x ∷ xs) (suc f) zero y = inr refl
set_or (x ∷ xs) (suc f) (suc k) y = elim (set_or xs f k y) [
  | inl h ↦ inl (ap (λ (n : ℕ). suc n) h.0, (let l = h.1 in omega (arith, l)), h.2)
  | inr e ↦ inr e
]

pub spare_past : (xs : List Spare) (k : ℕ) → length xs ≤ k → spare_at xs k ≡ no_spare
spare_past [] k l = refl
spare_past (x ∷ xs) zero l = absurd (omega (arith, l))
spare_past (x ∷ xs) (suc k) l = spare_past xs k (omega (arith, l))

pub set_here : (xs : List Spare) (f : ℕ) (y : Spare) → f < length xs → spare_at (set xs f y) f ≡ y
set_here [] f y l = absurd (omega (arith, l))
set_here (x ∷ xs) zero y l = refl
set_here (x ∷ xs) (suc f) y l = set_here xs f y (omega (arith, l))

pub set_there : (xs : List Spare) (f k : ℕ) (y : Spare) → k ≢ f → spare_at (set xs f y) k ≡ spare_at xs k
set_there xs f k y other = elim (set_or xs f k y) [
  | inl h ↦ absurd (other h.0)
  | inr e ↦ e
]

-- the same first source, and no more
pub record IsBelow (old new : Spare) : Type 0 where
  pub first : new.first ≡ old.first
  pub values : new.values ≤ old.values
  pub failures : new.failures ≤ old.failures

below_same : (x y : Spare) → y ≡ x → IsBelow x y
below_same x y e = subst (λ (z : Spare). IsBelow x z) (sym e) (record { first = refl; values = omega arith; failures = omega arith })

below_set : (xs : List Spare) (f : ℕ) (y : Spare) → IsBelow (spare_at xs f) y → (k : ℕ) → IsBelow (spare_at xs k) (spare_at (set xs f y) k)
below_set xs f y h k = elim (set_or xs f k y) [
  | inl w ↦ subst (λ (z : Spare). IsBelow (spare_at xs k) z) (sym w.2) (subst (λ (n : ℕ). IsBelow (spare_at xs n) y) (sym w.0) h)
  | inr e ↦ below_same (spare_at xs k) (spare_at (set xs f y) k) e
]

less_below : (old new : List Spare) → ((k : ℕ) → IsBelow (spare_at old k) (spare_at new k)) → (k : ℕ) → IsLessAt old new k
less_below old new h k =
    let first = (h k).first in
    let at = ap (spare_at new) first in
    let values = ap (λ (x : Spare). x.values) at in
    let failures = ap (λ (x : Spare). x.failures) at in
    let b = h ((spare_at old k).first) in
    let v = b.values in
    let w = b.failures in
    record { first = first; values = omega (arith, values, v); failures = omega (arith, failures, w) }

pub less_set : (xs : List Spare) (f : ℕ) (y : Spare) → IsBelow (spare_at xs f) y → (k : ℕ) → IsLessAt xs (set xs f y) k
less_set xs f y h = less_below xs (set xs f y) (below_set xs f y h)

pub less_same : (old new : List Spare) → ((k : ℕ) → spare_at new k ≡ spare_at old k) → (k : ℕ) → IsLessAt old new k
less_same old new h = less_below old new (λ k. below_same (spare_at old k) (spare_at new k) (h k))

pub less_then : (a b c : List Spare) (k : ℕ) → IsLessAt a b k → IsLessAt b c k → IsLessAt a c k
less_then a b c k h g =
    let v = h.values in
    let w = g.values in
    let x = h.failures in
    let y = g.failures in
    record { first = g.first ∙ h.first; values = omega (arith, v, w); failures = omega (arith, x, y) }

pub spent_less : (old new : List Spare) (k : ℕ) → IsLessAt old new k → IsSpent (left_to old k) → IsSpent (left_to new k)
spent_less old new k h (inl none) = let v = h.values in inl (omega (arith, v, none))
spent_less old new k h (inr none) = let v = h.failures in inr (omega (arith, v, none))

-- ---- a source is settled

pub spent_none : IsSpent no_spare
spent_none = inl refl

below_less : (x y : Spare) (a b : ℕ) → y.first ≡ x.first → y.values ≡ x.values - a → y.failures ≡ x.failures - b → IsBelow x y
below_less x y a b first values failures = record { first = first; values = omega (arith, values); failures = omega (arith, failures) }

none_or_some : (x y n : ℕ) → y ≡ x - n → (y ≡ 0) ⊎ (y + n ≤ x)
none_or_some x zero n e = inl refl
none_or_some x (suc y) n e = inr (omega (arith, e))

spent_by : (x y : Spare) (a b : ℕ) → y.values ≡ x.values - a → y.failures ≡ x.failures - b → IsSpent y ⊎ (y.values + a ≤ x.values) × (y.failures + b ≤ x.failures)
spent_by x y a b values failures = elim (none_or_some x.values y.values a values) [
  | inl none ↦ inl (inl none)
  | inr some ↦ elim (none_or_some x.failures y.failures b failures) [
    | inl none ↦ inl (inr none)
    | inr rest ↦ inr (some, rest)
  ]
]

spends_at : (xs : List Spare) (i : ℕ) (o : Option Outcome) (y : Spare) → (f : ℕ) → f ≡ (spare_at xs i).first → y.first ≡ (spare_at xs f).first → y.values ≡ (spare_at xs f).values - cond (has_value o) 1 0 → y.failures ≡ (spare_at xs f).failures - cond (has_failed o) 1 0 →
    ((f < length xs) ⊎ (length xs ≤ f)) → Spends i o xs (set xs f y)
spends_at xs i o y f is first values failures where_ =
    let below = below_less (spare_at xs f) y (cond (has_value o) 1 0) (cond (has_failed o) 1 0) first values failures in
    let less = less_set xs f y below in
    let new = set xs f y in
    let led : left_to new i ≡ spare_at new f = ap (spare_at new) ((less i).first ∙ sym is) in
    let was : left_to xs i ≡ spare_at xs f = ap (spare_at xs) (sym is) in
    record {
      less = less;
      others = λ k other. ap (spare_at new) (less k).first ∙ set_there xs f ((spare_at xs k).first) y (λ e. other (e ∙ is));
      spent = elim where_ [
        | inl l ↦ (let now : left_to new i ≡ y = led ∙ set_here xs f y l in
            subst (λ (z : Spare). IsSpent z ⊎ (z.values + cond (has_value o) 1 0 ≤ (left_to xs i).values) × (z.failures + cond (has_failed o) 1 0 ≤ (left_to xs i).failures)) (sym now)
            (subst (λ (z : Spare). IsSpent y ⊎ (y.values + cond (has_value o) 1 0 ≤ z.values) × (y.failures + cond (has_failed o) 1 0 ≤ z.failures)) (sym was)
            (spent_by (spare_at xs f) y (cond (has_value o) 1 0) (cond (has_failed o) 1 0) values failures)))
        | inr l ↦ inl (spent_less xs new i (less i) (subst IsSpent (sym (was ∙ spare_past xs f l)) spent_none))
      ];
    }

in_or : (f n : ℕ) → (f < n) ⊎ (n ≤ f)
in_or f n = elim (cases_lt f n) [ inl l ↦ inl l | inr l ↦ inr l ]

pub spends : (xs : List Spare) (i : ℕ) (o : Option Outcome) (y : Spare) (new : List Spare) → new ≡ set xs ((spare_at xs i).first) y → y.first ≡ (left_to xs i).first → y.values ≡ (left_to xs i).values - cond (has_value o) 1 0 →
    y.failures ≡ (left_to xs i).failures - cond (has_failed o) 1 0 → Spends i o xs new
spends xs i o y new is first values failures =
    let f = (spare_at xs i).first in
    subst (λ (l : List Spare). Spends i o xs l) (sym is) (spends_at xs i o y f refl first values failures (in_or f (length xs)))

-- where something is left, it stands there
left_by : (xs : List Spare) (i : ℕ) (y : Spare) (f : ℕ) → f ≡ (spare_at xs i).first → y.first ≡ (spare_at xs f).first → y.values ≤ (spare_at xs f).values → y.failures ≤ (spare_at xs f).failures → ¬ IsSpent y → ((f < length xs) ⊎ (length xs ≤ f)) → ¬ IsSpent (left_to (set xs f y) i)
left_by xs i y f is first values failures some (inl l) h =
    let less = less_set xs f y (record { first = first; values = values; failures = failures }) i in
    some (subst IsSpent (ap (spare_at (set xs f y)) (less.first ∙ sym is) ∙ set_here xs f y l) h)
left_by xs i y f is first values failures some (inr l) h =
    let none = ap (λ (x : Spare). x.values) (spare_past xs f l) in
    some (inl (omega (arith, values, none)))

pub left_there : (xs : List Spare) (i : ℕ) (a b : ℕ) (y : Spare) (new : List Spare) → new ≡ set xs ((spare_at xs i).first) y → y.first ≡ (left_to xs i).first → y.values ≡ (left_to xs i).values - a → y.failures ≡ (left_to xs i).failures - b → ¬ IsSpent y →
    ¬ IsSpent (left_to new i)
left_there xs i a b y new is first values failures some =
    let f = (spare_at xs i).first in
    subst (λ (l : List Spare). ¬ IsSpent (left_to l i)) (sym is) (left_by xs i y f refl first (omega (arith, values)) (omega (arith, failures)) some (in_or f (length xs)))

-- ---- one more settled stage is noted

abbrev one_if : Bool → ℕ
one_if b = cond b 1 0

times_off : (xs : List ℕ) (i : ℕ) → (Contains xs i → ⊥) → times_in i xs ≡ 0
times_off [] i h = refl
times_off (x ∷ xs) i h =
    let one = count_cons (λ s. s == i) x xs in
    let off = ap one_if (ne_eqb x i (λ e. h (subst (λ (y : ℕ). Contains (x ∷ xs) y) e (contains_head x xs)))) in
    let rest = times_off xs i (λ c. h (contains_tail x i xs c)) in
    omega (arith, one, off, rest)

one_or_none : (b : Bool) → cond b 1 0 ≤ 1
one_or_none true = omega arith
one_or_none false = omega arith

pub times_apart : (xs : List ℕ) (i : ℕ) → IsApart xs → times_in i xs ≤ 1
times_apart [] i h = omega arith
times_apart (x ∷ xs) i h =
    let one = count_cons (λ s. s == i) x xs in elim (cases_eq x i) [
      | inl same ↦ (let off = times_off xs i (λ c. (All-contains (λ (y : ℕ). x ≢ y) xs i h.0 c) same) in
          let few = one_or_none (x == i) in
          omega (arith, one, off, few))
      | inr other ↦ (let off = ap one_if (ne_eqb x i other) in
          let rest = times_apart xs i h.1 in
          omega (arith, one, off, rest))
    ]

no_times : (b : Bool) (t : ℕ) → t ≡ 0 → cond b t 0 ≡ 0
no_times true t h = h
no_times false t h = refl

few_times : (b : Bool) (t : ℕ) → t ≤ 1 → cond b t 0 ≤ cond b 1 0
few_times true t h = h
few_times false t h = omega arith

counted_less : (old now : List Spare) (j : Join) → ((k : ℕ) → IsLessAt old now k) → All (λ i. (spare_at old i).first ≡ j.source) (sources_of j) → All (λ i. (spare_at now i).first ≡ j.source) (sources_of j)
counted_less old now j less firsts = λ k d l. (less (get_or (sources_of j) k d)).first ∙ firsts k d l

-- at a join's own source stands what it has
own_left : (xs : List Spare) (j : Join) (i : ℕ) → (spare_at xs i).first ≡ j.source → left_to xs i ≡ spare_at xs j.source
own_left xs j i h = ap (spare_at xs) h

spent_all : (xs : List Spare) (j : Join) (i : ℕ) → All (λ k. (spare_at xs k).first ≡ j.source) (sources_of j) → (spare_at xs i).first ≡ j.source → IsSpent (left_to xs i) → All (λ k. IsSpent (left_to xs k)) (sources_of j)
spent_all xs j i firsts first spent = λ k d l. subst IsSpent (own_left xs j i first ∙ sym (own_left xs j (get_or (sources_of j) k d) (firsts k d l))) spent

record Less2 (xs ys : List Spare) (i : ℕ) : Type 0 where
  pub values : (spare_at ys i).values ≤ (spare_at xs i).values
  pub failures : (spare_at ys i).failures ≤ (spare_at xs i).failures

own_less : (xs ys : List Spare) (j : Join) (i : ℕ) → (spare_at xs i).first ≡ j.source → IsLessAt xs ys i → Less2 xs ys j.source
own_less xs ys j i first less =
    let was = own_left xs j i first in
    let is = own_left ys j i (less.first ∙ first) in
    let a = ap (λ (x : Spare). x.values) was in
    let b = ap (λ (x : Spare). x.values) is in
    let c = ap (λ (x : Spare). x.failures) was in
    let d = ap (λ (x : Spare). x.failures) is in
    let v = less.values in
    let w = less.failures in
    record { values = omega (arith, a, b, v); failures = omega (arith, c, d, w) }

-- where it is none of the sources
counted_other : (stages : List Stage) (front : List ℕ) (i : ℕ) (old now : List Spare) (j : Join) → is_among front i ≡ false → (Contains (sources_of j) i → ⊥) → ((k : ℕ) → IsLessAt old now k) → IsCounted old (outcome_among stages front) j →
    IsCounted now (outcome_among stages (front ++ i ∷ [])) j
counted_other stages front i old now j off none less c =
    let times = times_off (sources_of j) i none in
    let v = count_more has_value stages front i (sources_of j) refl off in
    let w = count_more has_failed stages front i (sources_of j) refl off in
    let a = no_times (has_value (outcome_in stages i)) (times_in i (sources_of j)) times in
    let b = no_times (has_failed (outcome_in stages i)) (times_in i (sources_of j)) times in
    let l = own_less old now j j.source (c.firsts 0 0 (omega arith)) (less j.source) in
    let x = l.values in
    let y = l.failures in
    let was = c.values in
    let were = c.failures in
    record { firsts = counted_less old now j less c.firsts; apart = c.apart; values = omega (arith, v, a, x, was); failures = omega (arith, w, b, y, were) }

-- where it is one
counted_one : (stages : List Stage) (front : List ℕ) (i : ℕ) (old now : List Spare) (j : Join) → is_among front i ≡ false → Contains (sources_of j) i → Spends i (outcome_in stages i) old now → IsCounted old (outcome_among stages front) j →
    IsTallied now (outcome_among stages (front ++ i ∷ [])) j
counted_one stages front i old now j off among spends c =
    let firsts = counted_less old now j spends.less c.firsts in
    let first = All-contains (λ (k : ℕ). (spare_at old k).first ≡ j.source) (sources_of j) i c.firsts among in
    let last = All-contains (λ (k : ℕ). (spare_at now k).first ≡ j.source) (sources_of j) i firsts among in
    elim spends.spent [
      | inl none ↦ inl (spent_all now j i firsts last none)
      | inr some ↦ (let times = times_apart (sources_of j) i c.apart in
          let v = count_more has_value stages front i (sources_of j) refl off in
          let w = count_more has_failed stages front i (sources_of j) refl off in
          let a = few_times (has_value (outcome_in stages i)) (times_in i (sources_of j)) times in
          let b = few_times (has_failed (outcome_in stages i)) (times_in i (sources_of j)) times in
          let x = some.0 in
          let y = some.1 in
          let p = own_left old j i first in
          let q = own_left now j i last in
          let pv = ap (λ (s : Spare). s.values) p in
          let pf = ap (λ (s : Spare). s.failures) p in
          let qv = ap (λ (s : Spare). s.values) q in
          let qf = ap (λ (s : Spare). s.failures) q in
          let was = c.values in
          let were = c.failures in
          inr (record { firsts = firsts; apart = c.apart; values = omega (arith, v, a, x, pv, qv, was); failures = omega (arith, w, b, y, pf, qf, were) }))
    ]

no_source : (flags : List Bool) (j : Join) (i : ℕ) → AreIn flags (sources_of j) → is_in_flags flags i ≡ false → Contains (sources_of j) i → ⊥
no_source flags j i marked off c = let on = All-contains (λ (k : ℕ). is_in_flags flags k ≡ true) (sources_of j) i marked c in let wrong : true ≡ false = sym on ∙ off in absurd (cc)

tallied_by : (stages : List Stage) (front : List ℕ) (i : ℕ) (old now : List Spare) (j : Join) → is_among front i ≡ false → Spends i (outcome_in stages i) old now → IsTallied old (outcome_among stages front) j → IsTallied now (outcome_among stages (front ++ i ∷ [])) j
tallied_by stages front i old now j off spends (inl spent) = inl (All-weaker (λ (k : ℕ). IsSpent (left_to old k)) (λ (k : ℕ). IsSpent (left_to now k)) (λ k s. spent_less old now k (spends.less k) s) (sources_of j) spent)
tallied_by stages front i old now j off spends (inr c) = elim (contains_or (sources_of j) i) [
  | inl among ↦ counted_one stages front i old now j off among spends c
  | inr none ↦ inr (counted_other stages front i old now j off none spends.less c)
]

tallied_off : (stages : List Stage) (front : List ℕ) (i : ℕ) (xs : List Spare) (j : Join) → is_among front i ≡ false → (Contains (sources_of j) i → ⊥) → IsTallied xs (outcome_among stages front) j → IsTallied xs (outcome_among stages (front ++ i ∷ [])) j
tallied_off stages front i xs j off none (inl spent) = inl spent
tallied_off stages front i xs j off none (inr c) = inr (counted_other stages front i xs xs j off none (less_same xs xs (λ k. refl)) c)

-- what noting one leaves
pub record NotesOne (flags : List Bool) (stages : List Stage) (i : ℕ) (old now : List Spare) : Type 0 where
  pub spends : is_in_flags flags i ≡ true → Spends i (outcome_in stages i) old now
  pub none : is_in_flags flags i ≡ false → now ≡ old

pub tallied_next : (flags : List Bool) (stages : List Stage) (front : List ℕ) (i : ℕ) (old now : List Spare) (j : Join) → NotesOne flags stages i old now → AreIn flags (sources_of j) → is_among front i ≡ false → IsTallied old (outcome_among stages front) j →
    IsTallied now (outcome_among stages (front ++ i ∷ [])) j
tallied_next flags stages front i old now j h marked apart t = elim (tests (is_in_flags flags i)) [
  | inl on ↦ tallied_by stages front i old now j apart (h.spends on) t
  | inr off ↦ subst (λ (xs : List Spare). IsTallied xs (outcome_among stages (front ++ i ∷ [])) j) (sym (h.none off)) (tallied_off stages front i old j apart (no_source flags j i marked off) t)
]

pub all_next : (flags : List Bool) (stages : List Stage) (front : List ℕ) (i : ℕ) (old now : List Spare) (follows : List Join) → NotesOne flags stages i old now → AreMarked flags follows → is_among front i ≡ false → AreTalliedBy old follows stages front →
    AreTalliedBy now follows stages (front ++ i ∷ [])
all_next flags stages front i old now follows h marked off all = λ k d l. elim (all k d l) [
  | inl settled ↦ inl settled
  | inr t ↦ inr (tallied_next flags stages front i old now (get_or follows k d) h (marked k d l) off t)
]

pub led_next : (flags : List Bool) (stages : List Stage) (i : ℕ) (old now : List Spare) → NotesOne flags stages i old now → AreLed flags old → AreLed flags now
led_next flags stages i old now h led = elim (tests (is_in_flags flags i)) [
  | inl on ↦ (λ k at. subst (λ (n : ℕ). (is_in_flags flags n ≡ true) ⊎ (4096 ≤ n)) (sym ((h.spends on).less k).first) (led k at))
  | inr off ↦ subst (λ (xs : List Spare). AreLed flags xs) (sym (h.none off)) led
]

-- what had something left has it still, unless the join of the one that is noted has nothing left
left_stays : (flags : List Bool) (stages : List Stage) (i k : ℕ) (old now : List Spare) → NotesOne flags stages i old now → HasLeft flags now i → HasLeft flags old k → HasLeft flags now k
left_stays flags stages i k old now h here (inl off) = inl off
left_stays flags stages i k old now h (inl none) (inr some) = inr (subst (λ (xs : List Spare). ¬ IsSpent (left_to xs k)) (sym (h.none none)) some)
left_stays flags stages i k old now h (inr left) (inr some) = elim (tests (is_in_flags flags i)) [
  | inr off ↦ inr (subst (λ (xs : List Spare). ¬ IsSpent (left_to xs k)) (sym (h.none off)) some)
  | inl on ↦ (let sp = h.spends on in elim (cases_eq (spare_at old k).first (spare_at old i).first) [
    | inl same ↦ (let at : left_to now k ≡ left_to now i = ap (spare_at now) ((sp.less k).first ∙ same ∙ sym (sp.less i).first) in
        inr (subst (λ (x : Spare). ¬ IsSpent x) (sym at) left))
    | inr other ↦ inr (subst (λ (x : Spare). ¬ IsSpent x) (sym (sp.others k other)) some)
  ])
]

pub left_next : (flags : List Bool) (stages : List Stage) (order : List ℕ) (from place i : ℕ) (old now : List Spare) → i ≡ get_or order place 0 → NotesOne flags stages i old now → HasLeft flags now i → HaveLeft flags old order from place →
    HaveLeft flags now order from (place + 1)
left_next flags stages order from place i old now is h here left = λ k a b. elim (cases_lt k place) [
  | inl l ↦ left_stays flags stages i (get_or order k 0) old now h here (left k a l)
  | inr l ↦ (let same : place ≡ k = omega (arith, l, b) in subst (λ (n : ℕ). HasLeft flags now n) (is ∙ ap (λ (n : ℕ). get_or order n 0) same) here)
]

pub or_false : (a b : Bool) → (a || b) ≡ false → (a ≡ false) × (b ≡ false)
or_false true b h = cc
or_false false b h = (refl, h)

pub and_true : (a b : Bool) → (a && b) ≡ true → (a ≡ true) × (b ≡ true)
and_true true b h = (refl, h)
and_true false b h = cc

-- ---- places

pub spare_push : (xs : List Spare) (i : ℕ) → spare_at (xs ++ no_spare ∷ []) i ≡ spare_at xs i
spare_push [] zero = refl
spare_push [] (suc i) = refl
spare_push (x ∷ xs) zero = refl
spare_push (x ∷ xs) (suc i) = spare_push xs i

-- ---- sources are marked

-- these are sources of a join with this first source alone, and different
pub record AreOwn (ks : List ℕ) (first : ℕ) (was : List Bool) (now : List Spare) : Type 0 where
  pub firsts : All (λ i. (spare_at now i).first ≡ first) ks
  pub apart : IsApart ks
  pub others : All (λ i. is_in_flags was i ≡ false) ks
  pub there : All (λ i. i < length now) ks

pub record AreMarkedSo (ks : List ℕ) (first : ℕ) (alone : Bool) (was flags : List Bool) (old now : List Spare) : Type 0 where
  pub marks : MarksAll ks was flags
  pub led : AreLed flags now
  pub less : AreLess was old now
  pub spent : All (λ i. IsSpent (left_to now i) ⊎ ((spare_at now i).first ≡ first)) ks
  pub own : alone ≡ true → AreOwn ks first was now

led_less : (flags : List Bool) (old now : List Spare) → ((k : ℕ) → IsLessAt old now k) → AreLed flags old → AreLed flags now
led_less flags old now less led = λ i at. subst (λ (n : ℕ). (is_in_flags flags n ≡ true) ⊎ (4096 ≤ n)) (sym (less i).first) (led i at)

spent_so : (first : ℕ) (old now : List Spare) (k : ℕ) → IsLessAt old now k → IsSpent (left_to old k) ⊎ ((spare_at old k).first ≡ first) → IsSpent (left_to now k) ⊎ ((spare_at now k).first ≡ first)
spent_so first old now k less (inl s) = inl (spent_less old now k less s)
spent_so first old now k less (inr e) = inr (less.first ∙ e)

-- what a stage that was followed leaves
marked_was : (ks : List ℕ) (first : ℕ) (alone own : Bool) (was flags : List Bool) (old xs now : List Spare) (x : ℕ) → AreMarkedSo ks first alone was flags old xs → is_in_flags flags x ≡ true → Empties x xs now → own ≡ false →
    AreMarkedSo (ks ++ x ∷ []) first (alone && own) was flags old now
marked_was ks first alone own was flags old xs now x h on e isnt = record {
  marks = record { flags = h.marks.flags; stay = h.marks.stay; marked = All-push (λ (k : ℕ). is_in_flags flags k ≡ true) ks x h.marks.marked on };
  led = led_less flags xs now e.less h.led;
  less = λ i at. less_then old xs now i (h.less i at) (e.less i);
  spent = All-push (λ (i : ℕ). IsSpent (left_to now i) ⊎ ((spare_at now i).first ≡ first)) ks x
      (All-weaker (λ (i : ℕ). IsSpent (left_to xs i) ⊎ ((spare_at xs i).first ≡ first)) (λ (i : ℕ). IsSpent (left_to now i) ⊎ ((spare_at now i).first ≡ first)) (λ i s. spent_so first xs now i (e.less i) s) ks h.spent)
      (inl e.spent);
  own = λ both. (let wrong : true ≡ false = sym (and_true alone own both).1 ∙ isnt in absurd (cc));
}

not_it : (flags : List Bool) (x k : ℕ) → is_in_flags flags x ≡ false → is_in_flags flags k ≡ true → k ≢ x
not_it flags x k off on same = let wrong : true ≡ false = sym on ∙ ap (is_in_flags flags) same ∙ off in absurd (cc)

-- where another stage is written
first_kept : (flags : List Bool) (xs : List Spare) (x k : ℕ) (y : Spare) → is_in_flags flags x ≡ false → is_in_flags flags k ≡ true → (spare_at (set xs x y) k).first ≡ (spare_at xs k).first
first_kept flags xs x k y off on = ap (λ (s : Spare). s.first) (set_there xs x k y (not_it flags x k off on))

left_kept_by : (flags : List Bool) (xs : List Spare) (x n : ℕ) (y : Spare) → x < 4096 → is_in_flags flags x ≡ false → (is_in_flags flags n ≡ true) ⊎ (4096 ≤ n) → spare_at (set xs x y) n ≡ spare_at xs n
left_kept_by flags xs x n y few off (inl on) = set_there xs x n y (not_it flags x n off on)
left_kept_by flags xs x n y few off (inr l) = set_there xs x n y (λ e. omega (arith, few, l, e))

left_kept : (flags : List Bool) (xs : List Spare) (x k : ℕ) (y : Spare) → x < 4096 → is_in_flags flags x ≡ false → AreLed flags xs → is_in_flags flags k ≡ true → left_to (set xs x y) k ≡ left_to xs k
left_kept flags xs x k y few off led on = ap (spare_at (set xs x y)) (first_kept flags xs x k y off on) ∙ left_kept_by flags xs x ((spare_at xs k).first) y few off (led k on)

less_kept : (flags : List Bool) (xs : List Spare) (x k : ℕ) (y : Spare) → x < 4096 → is_in_flags flags x ≡ false → AreLed flags xs → is_in_flags flags k ≡ true → IsLessAt xs (set xs x y) k
less_kept flags xs x k y few off led on =
    let same = left_kept flags xs x k y few off led on in
    let v = ap (λ (s : Spare). s.values) same in
    let w = ap (λ (s : Spare). s.failures) same in
    record { first = first_kept flags xs x k y off on; values = omega (arith, v); failures = omega (arith, w) }

-- a stage that wasn't followed
led_new : (flags : List Bool) (xs : List Spare) (x first i : ℕ) → x < 4096 → x < length flags → is_in_flags flags x ≡ false → AreLed flags xs → (x ≡ first) ⊎ (is_in_flags flags first ≡ true) → is_in_flags (set flags x true) i ≡ true → (x < length xs) ⊎ (length xs ≤ x) → (i ≡ x) ⊎ (i ≢ x) →
    (is_in_flags (set flags x true) (spare_at (set xs x (led_by first)) i).first ≡ true) ⊎ (4096 ≤ (spare_at (set xs x (led_by first)) i).first)
led_new flags xs x first i few there off led lead on (inl l) (inl same) =
    let here : (spare_at (set xs x (led_by first)) i).first ≡ first = ap (λ (n : ℕ). (spare_at (set xs x (led_by first)) n).first) same ∙ ap (λ (s : Spare). s.first) (set_here xs x (led_by first) l) in
    inl (ap (is_in_flags (set flags x true)) here ∙ elim lead [
      | inl it ↦ subst (λ (n : ℕ). is_in_flags (set flags x true) n ≡ true) it (get_or-set_same flags x true false there)
      | inr was ↦ flag_stays flags x first there was
    ])
led_new flags xs x first i few there off led lead on (inr l) (inl same) =
    let none = ap (λ (s : Spare). s.first) (spare_past (set xs x (led_by first)) x (let size = length-set xs x (led_by first) in omega (arith, size, l))) in
    let here = ap (λ (n : ℕ). (spare_at (set xs x (led_by first)) n).first) same in
    inr (omega (arith, here, none))
led_new flags xs x first i few there off led lead on places (inr other) =
    let was : is_in_flags flags i ≡ true = sym (get_or-set_other flags x i true false other) ∙ on in
    let same = ap (λ (s : Spare). s.first) (set_there xs x i (led_by first) other) in
    elim (led i was) [
      | inl at ↦ inl (ap (is_in_flags (set flags x true)) same ∙ flag_stays flags x ((spare_at xs i).first) there at)
      | inr l ↦ inr (omega (arith, same, l))
    ]

spent_kept : (flags : List Bool) (xs : List Spare) (x k first : ℕ) (y : Spare) → x < 4096 → is_in_flags flags x ≡ false → AreLed flags xs → is_in_flags flags k ≡ true → IsSpent (left_to xs k) ⊎ ((spare_at xs k).first ≡ first) →
    IsSpent (left_to (set xs x y) k) ⊎ ((spare_at (set xs x y) k).first ≡ first)
spent_kept flags xs x k first y few off led on s = spent_so first xs (set xs x y) k (less_kept flags xs x k y few off led on) s

spent_new : (xs : List Spare) (x first : ℕ) → x < 4096 → (x < length xs) ⊎ (length xs ≤ x) → IsSpent (left_to (set xs x (led_by first)) x) ⊎ ((spare_at (set xs x (led_by first)) x).first ≡ first)
spent_new xs x first few (inl l) = inr (ap (λ (s : Spare). s.first) (set_here xs x (led_by first) l))
spent_new xs x first few (inr l) =
    let now = set xs x (led_by first) in
    let size = length-set xs x (led_by first) in
    let none = ap (λ (s : Spare). s.first) (spare_past now x (omega (arith, size, l))) in
    inl (subst IsSpent (sym (ap (spare_at now) none ∙ spare_past now 65535 (omega (arith, size, l, few)))) spent_none)

apart_push : (ks : List ℕ) (x : ℕ) → IsApart ks → (Contains ks x → ⊥) → IsApart (ks ++ x ∷ [])
apart_push ks x h none = apart_append ks (x ∷ []) h (All-nil (λ (y : ℕ). x ≢ y), tt) (λ i a b. elim (contains_cases x i [] b) [
  | inl same ↦ none (subst (λ (y : ℕ). Contains ks y) (sym same) a)
  | inr rest ↦ (let l = rest.1 in absurd (omega (arith, l)))
])

own_new : (ks : List ℕ) (first x : ℕ) (was flags : List Bool) (xs : List Spare) → MarksAll ks was flags → is_in_flags flags x ≡ false → x < length xs → AreOwn ks first was xs → AreOwn (ks ++ x ∷ []) first was (set xs x (led_by first))
own_new ks first x was flags xs marks off l o =
    let now = set xs x (led_by first) in
    let size = length-set xs x (led_by first) in
    record {
      firsts = All-push (λ (i : ℕ). (spare_at now i).first ≡ first) ks x (λ k d b. first_kept flags xs x (get_or ks k d) (led_by first) off (marks.marked k d b) ∙ o.firsts k d b) (ap (λ (s : Spare). s.first) (set_here xs x (led_by first) l));
      apart = apart_push ks x o.apart (λ c. not_it flags x x off (All-contains (λ (i : ℕ). is_in_flags flags i ≡ true) ks x marks.marked c) refl);
      others = All-push (λ (i : ℕ). is_in_flags was i ≡ false) ks x o.others (elim (tests (is_in_flags was x)) [
        | inl on ↦ absurd (not_it flags x x off (marks.stay x on) refl)
        | inr isnt ↦ isnt
      ]);
      there = All-push (λ (i : ℕ). i < length now) ks x (λ k d b. (let t = o.there k d b in omega (arith, t, size))) (omega (arith, l, size));
    }

same_or : (i x : ℕ) → (i ≡ x) ⊎ (i ≢ x)
same_or i x = elim (cases_eq i x) [ inl e ↦ inl e | inr e ↦ inr e ]

marked_new : (ks : List ℕ) (first : ℕ) (alone own : Bool) (was flags : List Bool) (old xs : List Spare) (x : ℕ) → x < 4096 → x < length flags → AreMarkedSo ks first alone was flags old xs → (x ≡ first) ⊎ (is_in_flags flags first ≡ true) → is_in_flags flags x ≡ false →
    (own ≡ true → x < length xs) → AreMarkedSo (ks ++ x ∷ []) first (alone && own) was (set flags x true) old (set xs x (led_by first))
marked_new ks first alone own was flags old xs x few there h lead off place =
    let y = led_by first in
    let now = set xs x y in record {
      marks = marks_one ks x was flags (set flags x true) there refl h.marks;
      led = λ i on. led_new flags xs x first i few there off h.led lead on (in_or x (length xs)) (same_or i x);
      less = λ i at. less_then old xs now i (h.less i at) (less_kept flags xs x i y few off h.led (h.marks.stay i at));
      spent = All-push (λ (i : ℕ). IsSpent (left_to now i) ⊎ ((spare_at now i).first ≡ first)) ks x (λ k d l. spent_kept flags xs x (get_or ks k d) first y few off h.led (h.marks.marked k d l) (h.spent k d l)) (spent_new xs x first few (in_or x (length xs)));
      own = λ both. (let b = and_true alone own both in own_new ks first x was flags xs h.marks off (place b.1) (h.own b.0));
    }

-- what marking one leaves
pub record MarksOne (x first : ℕ) (own : Bool) (flags now_flags : List Bool) (xs now : List Spare) : Type 0 where
  pub was : is_in_flags flags x ≡ true → (now_flags ≡ flags) × Empties x xs now × (own ≡ false)
  pub wasnt : is_in_flags flags x ≡ false → (now_flags ≡ set flags x true) × (now ≡ set xs x (led_by first))
  pub mine : own ≡ true → (is_in_flags flags x ≡ false) × (x < length xs)

pub marked_push : (ks : List ℕ) (first : ℕ) (alone own : Bool) (was flags now_flags : List Bool) (old xs now : List Spare) (x : ℕ) → MarksOne x first own flags now_flags xs now → x < 4096 → x < length flags → (x ≡ first) ⊎ (is_in_flags flags first ≡ true) → AreMarkedSo ks first alone was flags old xs →
    AreMarkedSo (ks ++ x ∷ []) first (alone && own) was now_flags old now
marked_push ks first alone own was flags now_flags old xs now x one few there lead h = elim (tests (is_in_flags flags x)) [
  | inl on ↦ (let w = one.was on in
      subst (λ (l : List Bool). AreMarkedSo (ks ++ x ∷ []) first (alone && own) was l old now) (sym w.0) (marked_was ks first alone own was flags old xs now x h on w.1 w.2))
  | inr off ↦ (let w = one.wasnt off in
      subst (λ (l : List Bool). AreMarkedSo (ks ++ x ∷ []) first (alone && own) was l old now) (sym w.0)
      (subst (λ (l : List Spare). AreMarkedSo (ks ++ x ∷ []) first (alone && own) was (set flags x true) old l) (sym w.1)
      (marked_new ks first alone own was flags old xs x few there h lead off (λ is. (one.mine is).1))))
]

pub marked_none : (first : ℕ) (was : List Bool) (old : List Spare) → AreLed was old → AreMarkedSo [] first true was was old old
marked_none first was old led = record {
  marks = marks_none was;
  led = led;
  less = λ i at. less_same old old (λ k. refl) i;
  spent = All-nil (λ (i : ℕ). IsSpent (left_to old i) ⊎ ((spare_at old i).first ≡ first));
  own = λ is. record { firsts = All-nil (λ (i : ℕ). (spare_at old i).first ≡ first); apart = tt; others = All-nil (λ (i : ℕ). is_in_flags was i ≡ false); there = All-nil (λ (i : ℕ). i < length old) };
}

-- at last it is kept what is to spare
pub record IsMarked (j : Join) (left : Spare) (was flags : List Bool) (old now : List Spare) : Type 0 where
  pub led : AreLed flags now
  pub less : AreLess was old now
  pub spared : IsSpared now j left

marked_own : (j : Join) (left : Spare) (was flags : List Bool) (old xs : List Spare) → j.source < 4096 → left.first ≡ j.source → AreLed was old → AreMarkedSo (sources_of j) j.source true was flags old xs → IsMarked j left was flags old (set xs j.source left)
marked_own j left was flags old xs few first led h =
    let s = j.source in
    let o = h.own refl in
    let now = set xs s left in
    let here : spare_at now s ≡ left = set_here xs s left (o.there 0 0 (omega arith)) in
    let off : is_in_flags was s ≡ false = o.others 0 0 (omega arith) in
    let own : (spare_at xs s).first ≡ s = o.firsts 0 0 (omega arith) in
    let firsts : (k : ℕ) → (spare_at now k).first ≡ (spare_at xs k).first = λ k. elim (same_or k s) [
      | inl same ↦ ap (λ (n : ℕ). (spare_at now n).first) same ∙ ap (λ (x : Spare). x.first) here ∙ first ∙ sym own ∙ sym (ap (λ (n : ℕ). (spare_at xs n).first) same)
      | inr other ↦ ap (λ (x : Spare). x.first) (set_there xs s k left other)
    ] in
    record {
      led = λ i on. subst (λ (n : ℕ). (is_in_flags flags n ≡ true) ⊎ (4096 ≤ n)) (sym (firsts i)) (h.led i on);
      less = λ i at. (let l = h.less i at in
          let same : left_to now i ≡ left_to xs i = ap (spare_at now) (firsts i ∙ l.first) ∙ left_kept_by was xs s ((spare_at old i).first) left few off (led i at) ∙ ap (spare_at xs) (sym l.first) in
          let v = ap (λ (x : Spare). x.values) same in
          let w = ap (λ (x : Spare). x.failures) same in
          let a = l.values in
          let b = l.failures in
          record { first = firsts i ∙ l.first; values = omega (arith, v, a); failures = omega (arith, w, b) });
      spared = inr (record { firsts = λ k d l. firsts (get_or (sources_of j) k d) ∙ o.firsts k d l; apart = o.apart; left_is = here });
    }

spent_last : (xs now : List Spare) (s i : ℕ) → now ≡ set xs s (led_by (spare_at xs s).first) → IsLessAt xs now i → IsSpent (left_to xs i) ⊎ ((spare_at xs i).first ≡ s) → (s < length xs) ⊎ (length xs ≤ s) → IsSpent (left_to now i)
spent_last xs now s i is less (inl spent) places = spent_less xs now i less spent
spent_last xs now s i is less (inr led) (inl l) =
    let here : spare_at now s ≡ led_by (spare_at xs s).first = ap (λ (x : List Spare). spare_at x s) is ∙ set_here xs s (led_by (spare_at xs s).first) l in
    subst IsSpent (sym (ap (spare_at now) (less.first ∙ led) ∙ here)) (inl refl)
spent_last xs now s i is less (inr led) (inr l) = spent_less xs now i less (subst IsSpent (sym (ap (spare_at xs) led ∙ spare_past xs s l)) spent_none)

marked_spent : (j : Join) (left : Spare) (alone : Bool) (was flags : List Bool) (old xs now : List Spare) → now ≡ set xs j.source (led_by (spare_at xs j.source).first) → AreMarkedSo (sources_of j) j.source alone was flags old xs → IsMarked j left was flags old now
marked_spent j left alone was flags old xs now is h =
    let s = j.source in
    let y = led_by (spare_at xs s).first in
    let below : IsBelow (spare_at xs s) y = record { first = refl; values = omega arith; failures = omega arith } in
    let less : (k : ℕ) → IsLessAt xs now k = subst (λ (l : List Spare). (k : ℕ) → IsLessAt xs l k) (sym is) (less_set xs s y below) in
    record {
      led = led_less flags xs now less h.led;
      less = λ i at. less_then old xs now i (h.less i at) (less i);
      spared = inl (λ k d l. (let i = get_or (sources_of j) k d in spent_last xs now s i is (less i) (h.spent k d l) (in_or s (length xs))));
    }

pub marked_alone : (j : Join) (left : Spare) (was flags : List Bool) (old xs now : List Spare) → j.source < 4096 → left.first ≡ j.source → AreLed was old → AreMarkedSo (sources_of j) j.source true was flags old xs → now ≡ set xs j.source left → IsMarked j left was flags old now
marked_alone j left was flags old xs now few first led h is = subst (λ (l : List Spare). IsMarked j left was flags old l) (sym is) (marked_own j left was flags old xs few first led h)

pub marked_shared : (j : Join) (left : Spare) (was flags : List Bool) (old xs now : List Spare) → AreMarkedSo (sources_of j) j.source false was flags old xs → now ≡ set xs j.source (led_by (spare_at xs j.source).first) → IsMarked j left was flags old now
marked_shared j left was flags old xs now h is = marked_spent j left false was flags old xs now is h

-- ---- a join is set

pub tallied_less : (flags : List Bool) (old now : List Spare) (outcome : ℕ → Option Outcome) (j : Join) → AreLess flags old now → AreIn flags (sources_of j) → IsTallied old outcome j → IsTallied now outcome j
tallied_less flags old now outcome j less marked (inl spent) = inl (λ k d l. (let i = get_or (sources_of j) k d in spent_less old now i (less i (marked k d l)) (spent k d l)))
tallied_less flags old now outcome j less marked (inr c) =
    let own = own_less old now j j.source (c.firsts 0 0 (omega arith)) (less j.source (marked 0 0 (omega arith))) in
    let v = own.values in
    let w = own.failures in
    let a = c.values in
    let b = c.failures in
    inr (record {
      firsts = λ k d l. (less (get_or (sources_of j) k d) (marked k d l)).first ∙ c.firsts k d l;
      apart = c.apart;
      values = omega (arith, v, a);
      failures = omega (arith, w, b);
    })

tallied_alone : (s : State) (order : List ℕ) (xs : List Spare) (j : Join) (left : Spare) → IsOnce s order → IsAlone xs j left → MaySpare (outcome_in s.stages) j left → IsTallied xs (outcome_among s.stages order) j
tallied_alone s order xs j left once alone (inl spent) = inl (λ k d l. subst IsSpent (sym (ap (spare_at xs) (alone.firsts k d l) ∙ alone.left_is)) spent)
tallied_alone s order xs j left once alone (inr may) =
    let v = count_all has_value s order (sources_of j) once in
    let w = count_all has_failed s order (sources_of j) once in
    let a = ap (λ (x : Spare). x.values) alone.left_is in
    let b = ap (λ (x : Spare). x.failures) alone.left_is in
    let x = may.0 in
    let y = may.1 in
    inr (record { firsts = alone.firsts; apart = alone.apart; values = omega (arith, v, a, x); failures = omega (arith, w, b, y) })

tallied_spared : (s : State) (order : List ℕ) (xs : List Spare) (j : Join) (left : Spare) → IsOnce s order → IsSpared xs j left → MaySpare (outcome_in s.stages) j left → IsTallied xs (outcome_among s.stages order) j
tallied_spared s order xs j left once (inl spent) may = inl spent
tallied_spared s order xs j left once (inr alone) may = tallied_alone s order xs j left once alone may

pub less_places : (flags : List Bool) (old xs now : List Spare) → ((i : ℕ) → spare_at xs i ≡ spare_at old i) → AreLess flags xs now → AreLess flags old now
less_places flags old xs now same less = λ i at. less_then old xs now i (less_same old xs same i) (less i at)

pub led_places : (flags : List Bool) (old xs : List Spare) → ((i : ℕ) → spare_at xs i ≡ spare_at old i) → AreLed flags old → AreLed flags xs
led_places flags old xs same led = led_less flags old xs (less_same old xs same) led

pub tallied_set : (s : State) (order : List ℕ) (follows : List Join) (flags now_flags : List Bool) (old now : List Spare) (noted : ℕ) (j : Join) (left : Spare) → IsOnce s order → noted ≡ length order → AreMarked flags follows → AreLess flags old now → AreLed now_flags now →
    IsSpared now j left → MaySpare (outcome_in s.stages) j left → AreTallied follows flags old noted s.stages order → AreTallied (follows ++ j ∷ []) now_flags now noted s.stages order
tallied_set s order follows flags now_flags old now noted j left once all marked less led spared may t =
    let whole : take noted order ≡ order = take_all noted order (omega (arith, all)) in
    let P : Join → Type 0 = λ x. (is_settled_in s.stages x.stage ≡ true) ⊎ IsTallied now (outcome_among s.stages (take noted order)) x in
    record {
      within = t.within;
      settled = t.settled;
      led = led;
      joins = All-push P follows j
          (λ k d l. elim (t.joins k d l) [
            | inl settled ↦ inl settled
            | inr was ↦ inr (tallied_less flags old now (outcome_among s.stages (take noted order)) (get_or follows k d) less (marked k d l) was)
          ])
          (inr (subst (λ (l : List ℕ). IsTallied now (outcome_among s.stages l) j) (sym whole) (tallied_spared s order now j left once spared may)));
    }

-- ---- no join is decided

some_left : (n : ℕ) → (n ≡ 0 → ⊥) → 0 < n
some_left zero h = absurd (h refl)
some_left (suc n) h = omega arith

undecided_left : (xs : List Spare) (outcome : ℕ → Option Outcome) (j : Join) (i : ℕ) → ¬ IsSpent (left_to xs i) → (spare_at xs i).first ≡ j.source → IsCounted xs outcome j → IsUndecided outcome j
undecided_left xs outcome j i left first c =
    let own = own_left xs j i first in
    let v = ap (λ (x : Spare). x.values) own in
    let w = ap (λ (x : Spare). x.failures) own in
    let a = some_left (left_to xs i).values (λ e. left (inl e)) in
    let b = some_left (left_to xs i).failures (λ e. left (inr e)) in
    let x = c.values in
    let y = c.failures in
    record { values = omega (arith, v, a, x); failures = omega (arith, w, b, y) }

left_only : (flags : List Bool) (xs : List Spare) (i : ℕ) → is_in_flags flags i ≡ true → HasLeft flags xs i → ¬ IsSpent (left_to xs i)
left_only flags xs i on (inl off) = (let wrong : true ≡ false = sym on ∙ off in absurd (cc))
left_only flags xs i on (inr left) = left

undecided_so : (s : State) (order : List ℕ) (xs : List Spare) (j : Join) (i : ℕ) → IsOnce s order → Contains (sources_of j) i → ¬ IsSpent (left_to xs i) → IsTallied xs (outcome_among s.stages order) j → IsUndecided (outcome_in s.stages) j
undecided_so s order xs j i once among left (inl spent) = absurd (left (All-contains (λ (k : ℕ). IsSpent (left_to xs k)) (sources_of j) i spent among))
undecided_so s order xs j i once among left (inr c) =
    undecided_all s order j once (undecided_left xs (outcome_among s.stages order) j i left (All-contains (λ (k : ℕ). (spare_at xs k).first ≡ j.source) (sources_of j) i c.firsts among) c)

news_at : (taken told : List ℕ) (seen i : ℕ) (h : Contains (drop seen told) i) → get_or (taken ++ told) (length taken + (seen + h.0)) 0 ≡ i
news_at taken told seen i h = get_or-append-add taken told (seen + h.0) 0 ∙ sym (get_or-drop seen told h.0 0) ∙ at_there (drop seen told) i h

pub none_left_behind : (s : State) (taken told : List ℕ) (seen from all : ℕ) (flags : List Bool) (xs : List Spare) (follows : List Join) → IsOnce s (taken ++ told) → all ≡ length (taken ++ told) → from ≤ length taken + seen → AreMarked flags follows →
    HaveLeft flags xs (taken ++ told) from all → AreLookedAt seen told follows s.stages → AreTallied follows flags xs all s.stages (taken ++ told) → NoneBehind follows s.stages
none_left_behind s taken told seen from all flags xs follows once count since marked left looked t =
    let order = taken ++ told in
    let whole : take all order ≡ order = take_all all order (omega (arith, count)) in λ k d l. elim (looked.rest k d l) [
      | inl fine ↦ fine
      | inr common ↦ (let i = common.0 in
          let j = get_or follows k d in
          let place = length taken + (seen + common.2.0) in
          let size = length-append taken told in
          let rest = length-drop seen told in
          let within = common.2.1 in
          let few = looked.within in
          let it = left place (omega (arith, since)) (omega (arith, count, size, rest, within, few)) in
          let on = All-contains (λ (n : ℕ). is_in_flags flags n ≡ true) (sources_of j) i (marked k d l) common.1 in
          let some = left_only flags xs i on (subst (HasLeft flags xs) (news_at taken told seen i common.2) it) in
          elim (t.joins k d l) [
            | inl settled ↦ (λ decided. settled)
            | inr was ↦ (λ decided. absurd (decided (undecided_so s order xs j i once common.1 some (subst (λ (m : List ℕ). IsTallied xs (outcome_among s.stages m) j) whole was))))
          ])
    ]

-- ---- later on

-- what is settled stays so, and more is settled behind it
pub record StaysIn (old new : Teller) : Type 0 where
  pub more : List ℕ
  pub order : order_in new ≡ order_in old ++ more
  pub outcomes : (i : ℕ) → is_settled_in (state_of old.ledger).stages i ≡ true → outcome_in (state_of new.ledger).stages i ≡ outcome_in (state_of old.ledger).stages i

pub stays_as : (old new : Teller) → order_in new ≡ order_in old → ((i : ℕ) → outcome_in (state_of new.ledger).stages i ≡ outcome_in (state_of old.ledger).stages i) → StaysIn old new
stays_as old new order same = record { more = []; order = order ∙ sym (append-nil (order_in old)); outcomes = λ i is. same i }

pub stays_same : (old new : Teller) → new ≡ old → StaysIn old new
stays_same old new same = stays_as old new (ap order_in same) (λ i. ap (λ (t : Teller). outcome_in (state_of t.ledger).stages i) same)

pub stays_memory : (words : ℕ) (old new : Teller) → new ≡ with_memory words old → StaysIn old new
stays_memory words old new same = subst (λ (t : Teller). StaysIn old t) (sym same) (stays_as old (with_memory words old) refl (λ i. refl))

pub stays_then : (a b c : Teller) → StaysIn a b → StaysIn b c → StaysIn a c
stays_then a b c h k = record {
  more = h.more ++ k.more;
  order = k.order ∙ ap (λ (l : List ℕ). l ++ k.more) h.order ∙ append_assoc (order_in a) h.more k.more;
  outcomes = λ i is. k.outcomes i (ap is_some (h.outcomes i is) ∙ is) ∙ h.outcomes i is;
}

pub stays_word : (old new : Teller) (word : ℕ) (reply : Reply) → Tells word old reply new → StaysIn old new
stays_word old new word reply t = record {
  more = t.fresh;
  order = ap (λ (l : List ℕ). l ++ new.told) t.taken ∙ ap (λ (l : List ℕ). old.taken ++ l) t.told ∙ sym (append_assoc old.taken old.told t.fresh);
  outcomes = λ i was. ap (λ (s : State). outcome_in s.stages i) (next_is old.ledger new.ledger word reply t.does) ∙ stays (state_of old.ledger) t.does.event i was;
}

pub stays_settle : (who : ℕ) (d : Due) (old new : Teller) → Settles who d old new → StaysIn old new
stays_settle who d old new h = stays_word old new (word_of (settle_event who d.stage d.outcome)) h.reply h.done.tells.tells

stays_turns : (P : Teller → Due → Type 0) (who : ℕ) (dues : List Due) (a b : Teller) → AreSettledInTurn P who a dues b → StaysIn a b
stays_turns P who [] a b same = stays_same a b same
stays_turns P who (d ∷ dues) a b (between, waits, due, did, rest) = stays_then a between b (stays_settle who d a between did) (stays_turns P who dues between b rest)

pub stays_dues : (P : Teller → Due → Type 0) (who : ℕ) (a b : Teller) → SettlesDue P who a b → StaysIn a b
stays_dues P who a b h = stays_turns P who h.dues a b h.are

pub stays_held : (who : ℕ) (held : Option Held) (old : Teller) (finish : Option Finish) (new : Teller) → FinishesHeld who held old finish new → StaysIn old new
stays_held who None old None new h = stays_same old new h
stays_held who (Some g) old (Some f) new h = stays_word old new (word_of (Finishes who g.stage g.answer)) (ToldFinish (finished_as f.late)) h.done.tells.tells
stays_held who None old (Some f) new h = absurd h
stays_held who (Some g) old None new h = absurd h

pub stays_takes : (who lane : ℕ) (old : Teller) (taken : Option Taken) (new : Teller) → TakesIn who lane old taken new → StaysIn old new
stays_takes who lane old None new h = stays_same old new h.1
stays_takes who lane old (Some t) new h = stays_word old new (word_of (Claims who t.stage)) (ToldClaim (Granted t.args)) h.done.tells.tells

pub stays_attaches : (lane : ℕ) (events : List Event) (old new : Teller) → TellsAttaches lane events old new → StaysIn old new
stays_attaches lane [] old new h = stays_same old new h
stays_attaches lane (event ∷ events) old new (between, one, rest) =
    stays_then old between new (stays_word old between (word_of event) (ToldAttach (At (stages_of old.ledger))) one.tells.tells) (stays_attaches lane events between new rest)

pub stays_roomier : (more : ℕ) (old new : Teller) → order_in new ≡ order_in old → state_of new.ledger ≡ roomier more (state_of old.ledger) → StaysIn old new
stays_roomier more old new order is = stays_as old new order (λ i. ap (λ (s : State). outcome_in s.stages i) is)

among_all_of : (P : ℕ → Type 0) (xs : List ℕ) (i : ℕ) → All P xs → is_among xs i ≡ true → P i
among_all_of P [] i h on = (let wrong : false ≡ true = on in absurd (cc))
among_all_of P (x ∷ xs) i h on = elim (cases_eq x i) [
  | inl same ↦ subst P same (h 0 0 (omega arith))
  | inr other ↦ among_all_of P xs i (λ k d l. h (suc k) d (omega (arith, l))) (sym (ap (λ (b : Bool). b || is_among xs i) (ne_eqb x i other)) ∙ on)
]

same_outcome : (b : Bool) (o p : Option Outcome) → (b ≡ true → p ≡ o) → cond b p None ≡ cond b o None
same_outcome true o p h = h refl
same_outcome false o p h = refl

counted_same : (xs : List Spare) (f g : ℕ → Option Outcome) (j : Join) → ((i : ℕ) → g i ≡ f i) → IsCounted xs f j → IsCounted xs g j
counted_same xs f g j same c =
    let v = count_same has_value f g (sources_of j) (λ k d l. same (get_or (sources_of j) k d)) in
    let w = count_same has_failed f g (sources_of j) (λ k d l. same (get_or (sources_of j) k d)) in
    let a = c.values in
    let b = c.failures in
    record { firsts = c.firsts; apart = c.apart; values = omega (arith, v, a); failures = omega (arith, w, b) }

tallied_same : (xs : List Spare) (f g : ℕ → Option Outcome) (j : Join) → ((i : ℕ) → g i ≡ f i) → IsTallied xs f j → IsTallied xs g j
tallied_same xs f g j same (inl spent) = inl spent
tallied_same xs f g j same (inr c) = inr (counted_same xs f g j same c)

pub tallied_later : (follows : List Join) (flags : List Bool) (x : Tallies) (a b : Teller) → StaysIn a b → TalliesFit follows flags x a → TalliesFit follows flags x b
tallied_later follows flags x a b s t =
    let noted = x.noted in
    let front : take noted (order_in b) ≡ take noted (order_in a) = ap (λ (l : List ℕ). take noted l) s.order ∙ take-append-le noted (order_in a) s.more t.within in
    let size = ap (λ (l : List ℕ). length l) s.order ∙ length-append (order_in a) s.more in
    let within = t.within in
    let before = (state_of a.ledger).stages in
    let after = (state_of b.ledger).stages in
    let same : (i : ℕ) → outcome_among after (take noted (order_in b)) i ≡ outcome_among before (take noted (order_in a)) i = λ i.
    ap (λ (l : List ℕ). outcome_among after l i) front
    ∙ same_outcome (is_among (take noted (order_in a)) i) (outcome_in before i) (outcome_in after i) (λ on. s.outcomes i (among_all_of (λ (n : ℕ). is_settled_in before n ≡ true) (take noted (order_in a)) i t.settled on)) in
    record {
      within = omega (arith, size, within);
      settled = subst (λ (l : List ℕ). All (λ (i : ℕ). is_settled_in after i ≡ true) l) (sym front)
          (All-weaker (λ (i : ℕ). is_settled_in before i ≡ true) (λ (i : ℕ). is_settled_in after i ≡ true) (λ i is. ap is_some (s.outcomes i is) ∙ is) (take noted (order_in a)) t.settled);
      led = t.led;
      joins = λ k d l. elim (t.joins k d l) [
        | inl settled ↦ (let i = (get_or follows k d).stage in inl (ap is_some (s.outcomes i settled) ∙ settled))
        | inr was ↦ inr (tallied_same x.spares.items (outcome_among before (take noted (order_in a))) (outcome_among after (take noted (order_in b))) (get_or follows k d) same was)
      ];
    }

pub tallied_first : (flags : List Bool) (x : Tallies) (t : Teller) → x.noted ≡ 0 → ((i : ℕ) → is_in_flags flags i ≡ false) → TalliesFit [] flags x t
tallied_first flags x t none clear = record {
  within = omega (arith, none);
  settled = subst (λ (n : ℕ). All (λ (i : ℕ). is_settled_in (state_of t.ledger).stages i ≡ true) (take n (order_in t))) (sym none) (All-nil (λ (i : ℕ). is_settled_in (state_of t.ledger).stages i ≡ true));
  led = λ i on. (let wrong : true ≡ false = sym on ∙ clear i in absurd (cc));
  joins = All-nil (λ (j : Join). (is_settled_in (state_of t.ledger).stages j.stage ≡ true) ⊎ IsTallied x.spares.items (outcome_among (state_of t.ledger).stages (take x.noted (order_in t))) j);
}
