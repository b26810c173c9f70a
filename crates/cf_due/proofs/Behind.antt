-- What is due fits behind all that was seen.
use Rattle.std.proofs.Common.{◌≡◌, ℕ, ◌<◌, ◌≤◌, ◌⊎◌, inl, inr, Bool, Option, Some, None, List, [], ◌∷◌, All, Contains, sym, ◌∙◌, refl, subst, arith}
use Rattle.std.specs.Prelude.{◌≢◌}
use Rattle.std.proofs.lemmas.Bool.{cases_lt}
use Rattle.std.proofs.lemmas.List.Elements.{All-contains}
use Rattle.cf_ledger.specs.declared.step.Held.{Held}
use Rattle.cf_notes.specs.declared.noted.Noted.{Noted}
use Rattle.cf_notes.specs.declared.wants.Want.{Want}
use Rattle.cf_row.specs.declared.faults.PutFault.TheVariants.{NoMemory, NoTokens, NoWord}
use Rattle.cf_row.specs.Next.{Finishes}
use Rattle.cf_row.specs.Numbers.{FollowsRule, HaveOneEach, numbers_in}
use Rattle.cf_row.specs.Puts.{AreWordsBehind, pairs_of}
use Rattle.cf_row.specs.Rows.{Replica}
use Rattle.cf_row.proofs.Elements.{contains_cases, contains_first, contains_later, contains_none}
use Rattle.cf_due.specs.Finishing.{ClaimsIfMay}
use Rattle.cf_due.specs.Due.{FitBehind, IsDue, Known, word_in, words_of}
use Rattle.cf_due.specs.Laws.{FittingWordsArePlanned}
use Rattle.cf_due.specs.declared.due.Due.{Due}
use Rattle.cf_due.specs.declared.due.Due.TheVariants.{Finish, Abandon, Link, Cancel, Timer, Claim}

-- ---- the words of what is due

fit_finish : (r : Replica) (notes : List Noted) (may : Bool) (held : Held) (finish : ℕ) (claim : Option Want) → Finishes r held finish → ClaimsIfMay r notes may held finish claim →
    FitBehind r (finish ∷ word_in claim)
fit_finish r notes may held finish None f none = record { who = f.who; rule = f.rule; each = f.fits }
fit_finish r notes may held finish (Some want) f (may_claim, c) = record { who = c.finishes.who; rule = c.finishes.rule; each = c.fits }

pub fit_due : (k : Known) (d : Due) → IsDue k d → FitBehind k.view (words_of d)
fit_due k (Finish f) is = fit_finish k.view k.notes k.may_claim _ f.finish.word f.claim is.finish.word is.claim
fit_due k (Abandon want) is = (let f = is.1.fails in record { who = f.who; rule = f.rule; each = f.fits })
fit_due k (Link want) is = (let f = is.2.settles.word in record { who = f.who; rule = f.rule; each = f.fits })
fit_due k (Cancel want) is = (let f = is.3.settles.word in record { who = f.who; rule = f.rule; each = f.fits })
fit_due k (Timer want) is = (let f = is.4.settles.word in record { who = f.who; rule = f.rule; each = f.fits })
fit_due k (Claim want) is = (let f = is.6 in record { who = f.who; rule = f.rule; each = f.fits })

-- ---- a session has one number by the rule

in_front : (front : List (ℕ × ℕ)) (a : ℕ) → Contains (numbers_in front) a → (q : ℕ × ℕ) × Contains front q × (q.1 ≡ a)
in_front [] a h = absurd (contains_none a h)
in_front (x ∷ front) a h = split (in_front front a) (contains_cases x.1 a (numbers_in front) h)
  where
    split : (Contains (numbers_in front) a → (q : ℕ × ℕ) × Contains front q × (q.1 ≡ a)) → (x.1 ≡ a) ⊎ Contains (numbers_in front) a →
        (q : ℕ × ℕ) × Contains (x ∷ front) q × (q.1 ≡ a)
    split rest (inl e) = (x, contains_first x front, e)
    split rest (inr later) = (let g = rest later in (g.0, contains_later x g.0 front g.1, g.2))

not_in : (front : List (ℕ × ℕ)) (s a : ℕ) → All (λ (q : ℕ × ℕ). (q.0 ≢ s) × (q.1 ≢ a)) front → ¬ Contains (numbers_in front) a
not_in front s a others h = (let g = in_front front a h in (All-contains (λ (q : ℕ × ℕ). (q.0 ≢ s) × (q.1 ≢ a)) front g.0 others g.1).1 g.2)

one_number : (front : List (ℕ × ℕ)) (s a b : ℕ) → HaveOneEach front → FollowsRule front (s, a) → FollowsRule front (s, b) → a ≡ b
one_number front s a b h (inl x) (inl y) = h (s, a) (s, b) x y refl
one_number front s a b h (inl x) (inr (inl new)) = absurd ((All-contains (λ (r : ℕ × ℕ). (r.0 ≢ s) × (r.1 ≢ b)) front (s, a) new.others x).0 refl)
one_number front s a b h (inl x) (inr (inr late)) = absurd (All-contains (λ (r : ℕ × ℕ). r.0 ≢ s) front (s, a) late.others x refl)
one_number front s a b h (inr (inl new)) (inl y) = absurd ((All-contains (λ (r : ℕ × ℕ). (r.0 ≢ s) × (r.1 ≢ a)) front (s, b) new.others y).0 refl)
one_number front s a b h (inr (inr late)) (inl y) = absurd (All-contains (λ (r : ℕ × ℕ). r.0 ≢ s) front (s, b) late.others y refl)
one_number front s a b h (inr (inl new)) (inr (inl other)) = split (cases_lt a b) (cases_lt b a)
  where
    split : (a < b) ⊎ (b ≤ a) → (b < a) ⊎ (a ≤ b) → a ≡ b
    split (inl lt) other_way = absurd (not_in front s a new.others (other.lower a lt))
    split (inr le) (inl gt) = absurd (not_in front s b other.others (new.lower b gt))
    split (inr le) (inr ge) = omega (arith, le, ge)
one_number front s a b h (inr (inl new)) (inr (inr late)) = absurd (not_in front s a new.others (late.all a new.small))
one_number front s a b h (inr (inr late)) (inr (inl new)) = absurd (not_in front s b new.others (late.all b new.small))
one_number front s a b h (inr (inr late)) (inr (inr other)) = late.shares ∙ sym other.shares

pub planned_unless : FittingWordsArePlanned
planned_unless r next words NoWord one fit (tokens, (who, rule, misfit)) =
    λ _. misfit (subst (λ (n : ℕ). AreWordsBehind r n words) (one_number (pairs_of r.seen) r.session fit.who who one fit.rule rule) fit.each)
planned_unless r next words NoTokens one fit why = λ e. cc
planned_unless r next words NoMemory one fit why = λ e. cc
