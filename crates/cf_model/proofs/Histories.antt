-- Histories in parts, and stages along them: a stage that is pending no more never is again, and a claim of it leaves one that
-- nobody can claim.
use Rattle.std.proofs.Common.{◌≡◌, ℕ, ◌∷◌, ◌++◌, [], List, Bool, true, false, Some, suc, zero, ap, refl, set}
use Rattle.std.specs.Prelude.{slice_get, unwrap_or}
use Rattle.cf_model.specs.declared.stage.Stage.{Stage}
use Rattle.cf_model.specs.declared.stage.Stage.TheVariants.{Pending, Ready, Claimed, Linked, Settled}
use Rattle.cf_model.specs.declared.events.Event.{Event}
use Rattle.cf_model.specs.declared.events.Event.TheVariants.{Claim as Claims}
use Rattle.cf_model.specs.States.{State, stage_at, is_ready}
use Rattle.cf_model.specs.Events.{answered, claimed_by, state_after}
use Rattle.cf_model.specs.Claims.{is_claimable}
use Rattle.cf_model.proofs.Lost.{IsLostForGood, state_after-fails}
use Rattle.cf_model.proofs.Moves.{there}

pub state_after-append : (s : State) (xs ys : List Event) → state_after s (xs ++ ys) ≡ state_after (state_after s xs) ys
state_after-append s [] ys = refl
state_after-append s (x ∷ xs) ys = state_after-append ((answered s x).1) xs ys

-- ---- a stage that is pending no more

abbrev pub is_pending : Stage → Bool
is_pending Pending = true
is_pending stage = false

pending_lost : IsLostForGood is_pending
pending_lost = record { pending = refl; claimed = refl; linked = λ j. refl; settled = λ o. refl }

-- it never is again, whatever events come
pub state_after-not_pending : (s : State) (events : List Event) (i : ℕ) → is_pending (stage_at s i) ≡ false → is_pending (stage_at (state_after s events) i) ≡ false
state_after-not_pending s events i e = state_after-fails is_pending pending_lost s events i e

pub ready-not_pending : (x : Stage) → is_ready x ≡ true → is_pending x ≡ false
ready-not_pending Pending e = cc
ready-not_pending (Ready args) e = refl
ready-not_pending Claimed e = cc
ready-not_pending (Linked j) e = cc
ready-not_pending (Settled o) e = cc

pub ready-claimable : (x : Stage) → is_ready x ≡ true → is_claimable x ≡ true
ready-claimable Pending e = refl
ready-claimable (Ready args) e = refl
ready-claimable Claimed e = cc
ready-claimable (Linked j) e = cc
ready-claimable (Settled o) e = cc

set-there : (xs : List Stage) (i : ℕ) (x y : Stage) → slice_get xs i ≡ Some x → unwrap_or (slice_get (set xs i y) i) Pending ≡ y
set-there [] i x y e = cc
set-there (z ∷ xs) zero x y e = refl
set-there (z ∷ xs) (suc i) x y e = set-there xs i x y e

-- a claim of it leaves one that nobody can claim
claimed_by-not_claimable : (x : Stage) (s : State) (who i : ℕ) → stage_at s i ≡ x → is_pending x ≡ false → is_claimable (stage_at ((claimed_by x s who i).1) i) ≡ false
claimed_by-not_claimable (Ready args) s who i e w = ap is_claimable (set-there s.stages i (Ready args) Claimed (there (slice_get s.stages i) (Ready args) e (λ h. cc)))
claimed_by-not_claimable (Settled o) s who i e w = ap is_claimable e
claimed_by-not_claimable Claimed s who i e w = ap is_claimable e
claimed_by-not_claimable (Linked j) s who i e w = ap is_claimable e
claimed_by-not_claimable Pending s who i e w = cc

pub claiming-not_claimable : (s : State) (who i : ℕ) → is_pending (stage_at s i) ≡ false → is_claimable (stage_at ((answered s (Claims who i)).1) i) ≡ false
claiming-not_claimable s who i w = claimed_by-not_claimable (stage_at s i) s who i refl w
