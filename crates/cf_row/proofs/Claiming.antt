-- Which stages a session could claim, by what a finish settles.
use Rattle.std.proofs.Common.{◌≡◌, ℕ, ◌<◌, ◌⊎◌, inl, inr, true, List, sym, ◌∙◌, subst}
use Rattle.std.specs.Prelude.{Option, Some, None}
use Rattle.cf_model.specs.States.{State, is_ready, stage_at}
use Rattle.cf_outcome.specs.declared.outcome.Outcome.{Outcome}
use Rattle.cf_forms.specs.declared.forms.Answer.{Answer}
use Rattle.cf_forms.specs.declared.forms.Form.{Form}
use Rattle.cf_forms.specs.declared.forms.Landing.TheVariants.{Links}
use Rattle.cf_forms.specs.Forms.{landing}
use Rattle.cf_model.proofs.Stable.{landing-lower}
use Rattle.cf_ledger.specs.declared.step.Held.{Held}
use Rattle.cf_row.specs.declared.grants.Claim.{Claim}
use Rattle.cf_row.specs.declared.next.Settling.{Settling}
use Rattle.cf_row.specs.Next.{CanClaimIn, GoesOn, GoesOnAfter, Settles}

pub can_by : (claims : List Claim) (s : State) (session : ℕ) (held : Option Held) (after : Option Settling) (i : ℕ) → Settles claims s session held after →
    (is_ready (stage_at s i) ≡ true) ⊎ GoesOnAfter s after i → CanClaimIn claims s session held i
can_by claims s session held after i settles (inl ready) = inl ready
can_by claims s session None None i settles (inr next) = inr next
can_by claims s session None (Some after) i settles (inr next) = (let no : ⊥ = cc in absurd no)
can_by claims s session (Some held) None i settles (inr next) = absurd next
can_by claims s session (Some held) (Some after) i settles (inr next) = inr (record {
  has = settles.0;
  outcome = after.outcome;
  settles = settles.2;
  next = subst (λ (d : ℕ). GoesOn s d after.outcome i) settles.1 next;
})

same_some : (x y : Outcome) → Some x ≡ Some y → x ≡ y
same_some x y e = cc

pub not_by : (claims : List Claim) (s : State) (session : ℕ) (held : Option Held) (after : Option Settling) (i : ℕ) → Settles claims s session held after →
    ¬ ((is_ready (stage_at s i) ≡ true) ⊎ GoesOnAfter s after i) → ¬ CanClaimIn claims s session held i
not_by claims s session held after i settles not (inl ready) = not (inl ready)
not_by claims s session None after i settles not (inr next) = absurd next
not_by claims s session (Some held) None i settles not (inr made) = (let no : ⊥ = (let e = settles made.has in let is = made.settles in cc) in absurd no)
not_by claims s session (Some held) (Some after) i settles not (inr made) =
    let same = same_some made.outcome after.outcome (sym made.settles ∙ settles.2) in
    not (inr (subst (λ (d : ℕ). GoesOn s d after.outcome i) (sym settles.1) (subst (λ (o : Outcome). GoesOn s held.stage o i) same made.next)))

-- a stage is linked to a lower one
pub links_lower : (form : Form) (i : ℕ) (source : Option Outcome) (answer : Answer) (j : ℕ) → landing form i source answer ≡ Links j → j < i
links_lower = landing-lower
