-- Whose the claim of a stage is.
use Rattle.std.proofs.Common.{◌≡◌, ℕ, inl, inr, eqb, sym, ◌∙◌, subst}
use Rattle.std.specs.Bool.{OnFalse}
use Rattle.std.proofs.lemmas.Bool.Decides.{eqb_tells}
use Rattle.cf_row.specs.Grants.{ClaimsAreOnes, IsGrantedTo}
use Rattle.cf_row.specs.Rows.{Replica}
use Rattle.cf_host.specs.Lost.{HasOpenClaim}

-- a stage that was granted to another session isn't this one's
pub others_claim : (r : Replica) (i stage session own : ℕ) → ClaimsAreOnes → own ≡ r.session → stage ≡ i → IsGrantedTo r session stage → OnFalse (eqb session own) (¬ HasOpenClaim r i)
others_claim r i stage session own ones own_is same whose = elim (eqb_tells session own) [
  | inl p ↦ rw p.0 tt
  | inr p ↦ rw p.0 (λ h. p.1 (ones r.plan r.seen i session r.session (subst (IsGrantedTo r session) same whose) h.granted ∙ sym own_is))
]
