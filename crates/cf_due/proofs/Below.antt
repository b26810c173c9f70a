-- What holds of no stage below another one.
use Rattle.std.proofs.Common.{◌≡◌, ℕ, ◌+◌, ◌<◌, ◌≤◌, ◌⊎◌, inl, inr, ap, subst, arith}
use Rattle.std.proofs.lemmas.Bool.{cases_lt}
use Rattle.cf_ledger.specs.Ledgers.{Ledger, stages_of as ledger_stages, state_of as ledger_state}
use Rattle.cf_row.specs.Rows.{Replica, ledger_of, stages_of}

-- one stage more of which it doesn't hold
pub none_more : {A : Type 0} (P : ℕ → A → Type 0) (n : ℕ) → ((k : ℕ) → k < n → (x : A) → ¬ P k x) → ((x : A) → ¬ P n x) → (k : ℕ) → k < n + 1 → (x : A) → ¬ P k x
none_more P n below here k l x = split (cases_lt k n)
  where
    split : (k < n) ⊎ (n ≤ k) → ¬ P k x
    split (inl lt) = below k lt x
    split (inr le) = (let same : n ≡ k = omega (arith, le, l) in subst (λ (i : ℕ). ¬ P i x) same (here x))

-- a stage that is there has a number that a word can name
pub few_stages : (l : Ledger) (r : Replica) (n i : ℕ) → l ≡ ledger_of r → n ≡ ledger_stages l → n + (ledger_state l).plan.room ≤ 4096 → i < stages_of r → i ≤ 4095
few_stages l r n i is count few there = (let same : ledger_stages l ≡ stages_of r = ap ledger_stages is in omega (arith, same, count, few, there))
