-- What a whole search has found of the situation to which an order leads.
use Rattle.std.proofs.Common.{◌≡◌, ℕ, zero, suc, ◌-◌, ◌*◌, ◌^◌, ◌<◌, ◌≤◌, Bool, true, false, None, Option, List, ◌++◌, inl, inr, arith, refl, sym, subst, lit<}
use Rattle.std.specs.Prelude.{Contains, ◌⊎◌, if◌then◌else◌, sum_by}
use Rattle.std.specs.List.{filter}
use Rattle.std.proofs.Math.Nat.{eq-or-lt_of_le}
use Rattle.std.proofs.lemmas.Bool.{cases_lt}
use Rattle.std.proofs.lemmas.List.Elements.{All-contains, Contains-append_left, Contains-append_right}
use Rattle.cf_outcome.specs.declared.outcome.Outcome.{Outcome}
use Rattle.cf_forms.specs.Meanings.{Meanings}
use Rattle.cf_explore.specs.declared.condition.Condition.{Condition}
use Rattle.cf_explore.specs.declared.found.End.{End}
use Rattle.cf_explore.specs.declared.found.Found.{Found}
use Rattle.cf_explore.specs.declared.step.Move.{Move}
use Rattle.cf_explore.specs.Programs.{Programmed, Situated}
use Rattle.cf_explore.specs.Moves.{is_end}
use Rattle.cf_explore.specs.Situations.{outcomes_of}
use Rattle.cf_explore.specs.Orders.{IsOrder, after, ends_before}
use Rattle.cf_explore.specs.Conditions.{decides}
use Rattle.cf_explore.specs.Layers.{counted}
use Rattle.cf_explore.specs.Found.{IsDecision, IsFound, end_weight, weigh_ends}
use Rattle.cf_explore.proofs.Counting.{counted-none}
use Rattle.cf_explore_laws.specs.Laws.{IsUndecidedBy}
use Rattle.cf_explore_laws.proofs.Lists.{contains-filtered, contains-none, some-sum, sum-some}
use Rattle.cf_explore_laws.proofs.Orders.{order-after}
use Rattle.cf_explore_laws.proofs.Sames.{are_same, same_decides}

-- no order of a whole search has as many moves as it says
fewer : (m : Meanings) (p : Programmed) (conditions : List Condition) (found : Found) (k : ℕ) (s : Situated) → IsFound m p conditions found → found.whole ≡ true →
    Contains (after m p k) s → ((found.moves ≤ k) ⊎ (k < found.moves)) → k < found.moves
fewer m p conditions found k s h is there (inr less) = less
fewer m p conditions found k s h is there (inl more) = absurd (contains-none s (subst (λ (ss : List Situated). Contains ss s) (h.whole is k more) there))

at_least : (a b : ℕ) → (a ≤ b) ⊎ (b < a)
at_least a b = split (cases_lt b a)
  where
    split : (b < a) ⊎ (a ≤ b) → (a ≤ b) ⊎ (b < a)
    split (inl less) = inr less
    split (inr more) = inl more

pub order-fewer : (m : Meanings) (p : Programmed) (conditions : List Condition) (found : Found) (k : ℕ) (order : List Move) (s : Situated) → IsFound m p conditions found → found.whole ≡ true →
    IsOrder m p k order s → k < found.moves
order-fewer m p conditions found k order s h is one = fewer m p conditions found k s h is (order-after m p k order s one) (at_least found.moves k)

-- an end of an order of fewer moves is one of the ends
end-before : (m : Meanings) (p : Programmed) (j : ℕ) (s : Situated) → Contains (after m p j) s → is_end p s ≡ true → (k : ℕ) → j < k → Contains (ends_before m p k) s
end-before m p j s there is zero less = absurd (omega arith)
end-before m p j s there is (suc k) less = split (eq-or-lt_of_le (let le : j ≤ k = omega arith in le)) (end-before m p j s there is k)
  where
    split : (j ≡ k) ⊎ (j < k) → (j < k → Contains (ends_before m p k) s) → Contains (ends_before m p k ++ filter (is_end p) (after m p k)) s
    split (inl e) rest = Contains-append_right (ends_before m p k) (filter (is_end p) (after m p k)) s
        (contains-filtered (is_end p) (after m p k) s is (subst (λ (n : ℕ). Contains (after m p n) s) e there))
    split (inr l) rest = Contains-append_left (ends_before m p k) (filter (is_end p) (after m p k)) s (rest l)

-- 1 for these outcomes, and 0 for all others
one_where : List (Option Outcome) → List (Option Outcome) → ℕ
one_where outcomes other = if are_same outcomes other then 1 else 0

one-there : (outcomes : List (Option Outcome)) → 0 < one_where outcomes outcomes
unfolding one_where
one-there outcomes = (let is : are_same outcomes outcomes ≡ true = (same_decides outcomes outcomes).1 refl in rw is (omega arith))

one-same_by : (outcomes other : List (Option Outcome)) (b : Bool) → are_same outcomes other ≡ b → 0 < (if b then 1 else 0) → outcomes ≡ other
one-same_by outcomes other true e h = (same_decides outcomes other).0 e
one-same_by outcomes other false e h = absurd (omega arith)

one-same : (outcomes other : List (Option Outcome)) → 0 < one_where outcomes other → outcomes ≡ other
unfolding one_where
one-same outcomes other h = one-same_by outcomes other (are_same outcomes other) refl h

-- both numbers of a product that isn't 0
first-some : (a b : ℕ) → 0 < a * b → 0 < a
first-some zero b h = absurd (omega arith)
first-some (suc a) b h = omega arith

second-some : (a b : ℕ) → 0 < a * b → 0 < b
second-some a zero h = absurd (omega arith)
second-some a (suc b) h = omega arith

-- what is counted the same is 0 or not alike
some-counted : (a b : ℕ) → counted a ≡ counted b → 0 < b → 0 < a
some-counted zero b e some = absurd (let none = counted-none (2 ^ 128 - 1) b (lit< tt) e in omega arith)
some-counted (suc a) b e some = omega arith

-- the outcomes of an end to which an order leads are told by a whole search
pub end-told : (m : Meanings) (p : Programmed) (conditions : List Condition) (found : Found) (k : ℕ) (order : List Move) (s : Situated) → IsFound m p conditions found → found.whole ≡ true →
    IsOrder m p k order s → is_end p s ≡ true → (e : End) × Contains found.ends.items e × (e.outcomes.items ≡ outcomes_of s) × (0 < e.orders)
end-told m p conditions found k order s h is one end =
    let f = one_where (outcomes_of s) in
    let there : Contains (ends_before m p found.moves) s = end-before m p k s (order-after m p k order s one) end found.moves (order-fewer m p conditions found k order s h is one) in
    let some : 0 < sum_by (λ (t : Situated). f (outcomes_of t)) (ends_before m p found.moves) = sum-some (λ (t : Situated). f (outcomes_of t)) (ends_before m p found.moves) s there (one-there (outcomes_of s)) in
    let weighs : 0 < weigh_ends f found.ends.items = some-counted (weigh_ends f found.ends.items) (sum_by (λ (t : Situated). f (outcomes_of t)) (ends_before m p found.moves)) (h.ends f) some in
    let one_end = some-sum (end_weight f) found.ends.items weighs in
    let e = one_end.0 in
    (e, one_end.1, sym (one-same (outcomes_of s) e.outcomes.items (second-some e.orders (f e.outcomes.items) one_end.2)), first-some e.orders (f e.outcomes.items) one_end.2)

-- and it decides no condition that no order of it decides
pub order-undecided : (m : Meanings) (p : Programmed) (conditions : List Condition) (found : Found) (condition : Condition) (k : ℕ) (order : List Move) (s : Situated) →
    IsFound m p conditions found → found.whole ≡ true → IsUndecidedBy conditions found.decisions.items condition → IsOrder m p k order s → decides p condition s ≡ false
order-undecided m p conditions found condition k order s h is none one =
    let undecided : IsDecision m p found.trail.items found.moves condition None = h.decisions none.0 condition None none.1 none.2 in
    let less : k < found.moves = order-fewer m p conditions found k order s h is one in
    All-contains (λ (t : Situated). decides p condition t ≡ false) (after m p k) s (undecided k less) (order-after m p k order s one)
