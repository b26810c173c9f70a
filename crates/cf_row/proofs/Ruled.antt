-- Numbers that sessions take by the rule.
use Rattle.std.proofs.Common.{◌≡◌, ℕ, ◌<◌, List, [], ◌∷◌, ◌++◌, Contains, ap, sym, ◌∙◌, subst, append-nil, append_assoc, inl, inr, arith}
use Rattle.std.specs.Prelude.{◌≢◌, ◌⊎◌}
use Rattle.std.proofs.lemmas.List.{map-append}
use Rattle.std.proofs.lemmas.List.Elements.{All-contains, Contains-append_left, Contains-push_cases}
use Rattle.cf_row.specs.Numbers.{AllFollow, AreAllTaken, AreSharedLast, FollowsRule, HaveNoGaps, HaveOneEach, numbers_in, shared_number}
use Rattle.cf_row.specs.Laws.{NumbersAreRuled}

-- ---- no session has two

-- a new pair beside an older one
beside : (front : List (ℕ × ℕ)) (p q : ℕ × ℕ) → HaveOneEach front → FollowsRule front p → Contains front q → p.0 ≡ q.0 → p.1 ≡ q.1
beside front p q h (inl there) old same = h p q there old same
beside front p q h (inr (inl new)) old same = absurd ((All-contains (λ (r : ℕ × ℕ). (r.0 ≢ p.0) × (r.1 ≢ p.1)) front q new.others old).0 (sym same))
beside front p q h (inr (inr late)) old same = absurd (All-contains (λ (r : ℕ × ℕ). r.0 ≢ p.0) front q late.others old (sym same))

cases : (front : List (ℕ × ℕ)) (x p q : ℕ × ℕ) → HaveOneEach front → FollowsRule front x → Contains front p ⊎ (x ≡ p) → Contains front q ⊎ (x ≡ q) → p.0 ≡ q.0 → p.1 ≡ q.1
cases front x p q h rule (inl a) (inl b) same = h p q a b same
cases front x p q h rule (inl a) (inr e) same = sym (subst (λ (z : ℕ × ℕ). z.0 ≡ p.0 → z.1 ≡ p.1) e (beside front x p h rule a) (sym same))
cases front x p q h rule (inr e) (inl b) same = subst (λ (z : ℕ × ℕ). z.0 ≡ q.0 → z.1 ≡ q.1) e (beside front x q h rule b) same
cases front x p q h rule (inr e) (inr f) same = ap (λ (z : ℕ × ℕ). z.1) (sym e ∙ f)

step : (front : List (ℕ × ℕ)) (x : ℕ × ℕ) → HaveOneEach front → FollowsRule front x → HaveOneEach (front ++ x ∷ [])
step front x h rule = λ p q a b. cases front x p q h rule (Contains-push_cases front x p a) (Contains-push_cases front x q b)

one_each : (front rest : List (ℕ × ℕ)) → HaveOneEach front → AllFollow front rest → HaveOneEach (front ++ rest)
one_each front [] h rules = subst HaveOneEach (sym (append-nil front)) h
one_each front (x ∷ rest) h rules = subst HaveOneEach (append_assoc front (x ∷ []) rest) (one_each (front ++ x ∷ []) rest (step front x h rules.0) rules.1)

-- ---- none is shared before all are taken

-- what is told of two sessions of one number
abbrev Share : List (ℕ × ℕ) → ℕ × ℕ → ℕ × ℕ → Type 0
Share row p q = AreAllTaken row × ((p.1 ≡ shared_number p.0) ⊎ (q.1 ≡ shared_number q.0))

more_taken : (front rest : List (ℕ × ℕ)) → AreAllTaken front → AreAllTaken (front ++ rest)
more_taken front rest all = λ k l.
    subst (λ (ns : List ℕ). Contains ns k) (sym (map-append (λ (z : ℕ × ℕ). z.1) front rest)) (Contains-append_left (numbers_in front) (numbers_in rest) k (all k l))

swapped : (row : List (ℕ × ℕ)) (p q : ℕ × ℕ) → Share row p q → Share row q p
swapped row p q (all, inl e) = (all, inr e)
swapped row p q (all, inr e) = (all, inl e)

share_beside : (front : List (ℕ × ℕ)) (p q : ℕ × ℕ) → AreSharedLast front → FollowsRule front p → Contains front q → p.1 ≡ q.1 → p.0 ≢ q.0 → Share front p q
share_beside front p q h (inl there) old same other = h p q there old same other
share_beside front p q h (inr (inl new)) old same other = absurd ((All-contains (λ (r : ℕ × ℕ). (r.0 ≢ p.0) × (r.1 ≢ p.1)) front q new.others old).1 (sym same))
share_beside front p q h (inr (inr late)) old same other = (late.all, inl late.shares)

share_cases : (front : List (ℕ × ℕ)) (x p q : ℕ × ℕ) → AreSharedLast front → FollowsRule front x → Contains front p ⊎ (x ≡ p) → Contains front q ⊎ (x ≡ q) → p.1 ≡ q.1 → p.0 ≢ q.0 → Share front p q
share_cases front x p q h rule (inl a) (inl b) same other = h p q a b same other
share_cases front x p q h rule (inl a) (inr e) same other =
    swapped front q p (subst (λ (z : ℕ × ℕ). z.1 ≡ p.1 → z.0 ≢ p.0 → Share front z p) e (share_beside front x p h rule a) (sym same) (λ f. other (sym f)))
share_cases front x p q h rule (inr e) (inl b) same other = subst (λ (z : ℕ × ℕ). z.1 ≡ q.1 → z.0 ≢ q.0 → Share front z q) e (share_beside front x q h rule b) same other
share_cases front x p q h rule (inr e) (inr f) same other = absurd (other (ap (λ (z : ℕ × ℕ). z.0) (sym e ∙ f)))

share_step : (front : List (ℕ × ℕ)) (x : ℕ × ℕ) → AreSharedLast front → FollowsRule front x → AreSharedLast (front ++ x ∷ [])
share_step front x h rule = λ p q a b same other.
    (let s = share_cases front x p q h rule (Contains-push_cases front x p a) (Contains-push_cases front x q b) same other in
    (more_taken front (x ∷ []) s.0, s.1))

shared_last : (front rest : List (ℕ × ℕ)) → AreSharedLast front → AllFollow front rest → AreSharedLast (front ++ rest)
shared_last front [] h rules = subst AreSharedLast (sym (append-nil front)) h
shared_last front (x ∷ rest) h rules = subst AreSharedLast (append_assoc front (x ∷ []) rest) (shared_last (front ++ x ∷ []) rest (share_step front x h rules.0) rules.1)

-- ---- below a number that is taken all are

late_lower : (front : List (ℕ × ℕ)) (s n k : ℕ) → AreAllTaken front → n ≡ shared_number s → k < n → Contains (numbers_in front) k
late_lower front s n k all is l = all k (omega arith)

gap_cases : (front : List (ℕ × ℕ)) (p q : ℕ × ℕ) → HaveNoGaps front → FollowsRule front p → (k : ℕ) → k < q.1 → Contains front q ⊎ (p ≡ q) → Contains (numbers_in front) k
gap_cases front p q h rule k l (inl old) = h q old k l
gap_cases front p q h (inl there) k l (inr same) = h q (subst (λ (z : ℕ × ℕ). Contains front z) same there) k l
gap_cases front p q h (inr (inl new)) k l (inr same) = new.lower k (subst (λ (z : ℕ × ℕ). k < z.1) (sym same) l)
gap_cases front p q h (inr (inr late)) k l (inr same) = late_lower front p.0 p.1 k late.all late.shares (subst (λ (z : ℕ × ℕ). k < z.1) (sym same) l)

gap_step : (front : List (ℕ × ℕ)) (p : ℕ × ℕ) → HaveNoGaps front → FollowsRule front p → HaveNoGaps (front ++ p ∷ [])
gap_step front p h rule = λ q there k l.
    subst (λ (ns : List ℕ). Contains ns k) (sym (map-append (λ (z : ℕ × ℕ). z.1) front (p ∷ [])))
    (Contains-append_left (numbers_in front) (p.1 ∷ []) k (gap_cases front p q h rule k l (Contains-push_cases front p q there)))

no_gaps : (front rest : List (ℕ × ℕ)) → HaveNoGaps front → AllFollow front rest → HaveNoGaps (front ++ rest)
no_gaps front [] h rules = subst HaveNoGaps (sym (append-nil front)) h
no_gaps front (x ∷ rest) h rules = subst HaveNoGaps (append_assoc front (x ∷ []) rest) (no_gaps (front ++ x ∷ []) rest (gap_step front x h rules.0) rules.1)

pub ruled : NumbersAreRuled
ruled row rules = record {
  one_each = one_each [] row (λ p q a b same. absurd (let m = a.1 in omega (arith, m))) rules;
  shared_last = shared_last [] row (λ p q a b same other. absurd (let m = a.1 in omega (arith, m))) rules;
  no_gaps = no_gaps [] row (λ q there k l. absurd (let m = there.1 in omega (arith, m))) rules;
}
