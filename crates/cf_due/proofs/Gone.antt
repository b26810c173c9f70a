-- The lowest stage that a session has which is gone.
use Rattle.std.proofs.Common.{◌≡◌, ℕ, ◌+◌, ◌<◌, ◌≤◌, ◌⊎◌, inl, inr, subst, arith}
use Rattle.std.specs.Prelude.{◌≢◌, None}
use Rattle.std.proofs.lemmas.Bool.{cases_lt}
use Rattle.cf_model.specs.States.{claim_at, outcome_at}
use Rattle.cf_row.specs.Abandoning.{Abandons}
use Rattle.cf_row.specs.Grants.{ClaimsAreOnes, IsGrantedTo, IsHeldBy, NoneOpen}
use Rattle.cf_row.specs.Rows.{Replica, state_of}
use Rattle.cf_watch.specs.Watches.{Watch}
use Rattle.cf_due.specs.Abandoning.{IsOtherGone, NoneToAbandon}

-- none is there below a stage whose claim is the next that is open
pub none_till : (r : Replica) (watch : Watch) (from to : ℕ) → NoneToAbandon r watch from → NoneOpen from to (state_of r) → NoneToAbandon r watch to
none_till r watch from to none closed = λ session is k low below held. split k below (held.claimed) (none session is k low) held (cases_lt k from)
  where
    split : (k : ℕ) → k < to → claim_at (state_of r) k ≢ None → {session : ℕ} → (k < from → ¬ IsHeldBy r session k) → IsHeldBy r session k → (k < from) ⊎ (from ≤ k) → ⊥
    split k below claimed earlier held (inl lt) = earlier lt held
    split k below claimed earlier held (inr le) = claimed (closed k le below)

-- nor up to that one, where it is settled, or its session isn't gone
pub none_with : (r : Replica) (watch : Watch) (stage session : ℕ) → ClaimsAreOnes → NoneToAbandon r watch stage → IsGrantedTo r session stage →
    (outcome_at (state_of r) stage ≢ None) ⊎ (¬ IsOtherGone r watch session) → NoneToAbandon r watch (stage + 1)
none_with r watch stage session ones none granted why = λ other is k low below held. split other is k (none other is k low) below held (cases_lt k stage) why
  where
    split : (other : ℕ) → IsOtherGone r watch other → (k : ℕ) → (k < stage → ¬ IsHeldBy r other k) → k < stage + 1 → IsHeldBy r other k → (k < stage) ⊎ (stage ≤ k) →
        (outcome_at (state_of r) stage ≢ None) ⊎ (¬ IsOtherGone r watch session) → ⊥
    split other is k earlier below held (inl lt) w = earlier lt held
    split other is k earlier below held (inr le) w =
        let same : k ≡ stage = omega (arith, le, below) in
        by_why (subst (λ (i : ℕ). IsHeldBy r other i) same held) w
      where
        by_why : IsHeldBy r other stage → (outcome_at (state_of r) stage ≢ None) ⊎ (¬ IsOtherGone r watch session) → ⊥
        by_why h (inl settled) = settled h.unsettled
        by_why h (inr stays) = stays (subst (IsOtherGone r watch) (ones r.plan r.seen stage other session h.granted granted) is)

-- the word that fails the lowest stage of that session fails that stage
pub fails_that : (r : Replica) (watch : Watch) (stage session code word : ℕ) → NoneToAbandon r watch stage → IsOtherGone r watch session → IsHeldBy r session stage →
    (a : Abandons r session 0 code word) → a.stage ≡ stage
fails_that r watch stage session code word none is held a = split (cases_lt a.stage stage) (cases_lt stage a.stage)
  where
    split : (a.stage < stage) ⊎ (stage ≤ a.stage) → (stage < a.stage) ⊎ (a.stage ≤ stage) → a.stage ≡ stage
    split (inl lt) other = absurd (none session is a.stage (omega arith) lt a.held)
    split (inr le) (inl gt) = absurd (a.first stage (omega arith) gt held)
    split (inr le) (inr ge) = omega (arith, le, ge)
