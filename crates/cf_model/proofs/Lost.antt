-- A test of stages that pending ones pass, and claimed, linked and settled ones fail: who fails it once fails it for good.
use Rattle.std.proofs.Common.{◌≡◌, ℕ, ◌∷◌, ◌++◌, [], List, Bool, true, false, Option, Some, None, suc, zero, set}
use Rattle.std.specs.Prelude.{slice_get, unwrap_or}
use Rattle.cf_outcome.specs.declared.outcome.Outcome.{Outcome}
use Rattle.cf_outcome.specs.Outcomes.{wrap}
use Rattle.cf_forms.specs.declared.forms.Form.{Form}
use Rattle.cf_forms.specs.Plans.{PlannedStage}
use Rattle.cf_model.specs.declared.stage.Stage.{Stage}
use Rattle.cf_model.specs.declared.stage.Stage.TheVariants.{Pending, Ready, Claimed, Linked, Settled}
use Rattle.cf_model.specs.declared.events.Event.{Event}
use Rattle.cf_model.specs.States.{State, stage_at, linked_state, next_of, new_states, outcome_in}
use Rattle.cf_model.specs.Events.{state_after}
use Rattle.cf_model.proofs.Moves.{IsKept, state_after-kept}

pub record IsLostForGood (test : Stage → Bool) : Type 0 where
  pub pending : test Pending ≡ true
  pub claimed : test Claimed ≡ false
  pub linked : (j : ℕ) → test (Linked j) ≡ false
  pub settled : (o : Outcome) → test (Settled o) ≡ false

set-fails : (test : Stage → Bool) (xs : List Stage) (d i : ℕ) (y : Stage) → test y ≡ false → test (unwrap_or (slice_get xs i) Pending) ≡ false → test (unwrap_or (slice_get (set xs d y) i) Pending) ≡ false
set-fails test [] d i y new e = e
set-fails test (x ∷ xs) zero zero y new e = new
set-fails test (x ∷ xs) zero (suc i) y new e = e
set-fails test (x ∷ xs) (suc d) zero y new e = e
set-fails test (x ∷ xs) (suc d) (suc i) y new e = set-fails test xs d i y new e

pub linked_state-fails : (test : Stage → Bool) → IsLostForGood test → (j : ℕ) (x : Option Outcome) → test (linked_state j x) ≡ false
linked_state-fails test h j None = h.linked j
linked_state-fails test h j (Some o) = h.settled (wrap o)

next_of-fails : (test : Stage → Bool) → IsLostForGood test → (below : List Stage) (form : Form) (sources : List ℕ) (x : Stage) → test x ≡ false → test (next_of below form sources x) ≡ false
next_of-fails test h below form sources Pending e = let passes = h.pending in cc
next_of-fails test h below form sources (Ready args) e = e
next_of-fails test h below form sources Claimed e = e
next_of-fails test h below form sources (Linked j) e = linked_state-fails test h j (outcome_in below j)
next_of-fails test h below form sources (Settled o) e = e

new_states-fails : (test : Stage → Bool) → IsLostForGood test → (below : List Stage) (plan : List PlannedStage) (xs : List Stage) (i : ℕ) → test (unwrap_or (slice_get xs i) Pending) ≡ false → test (unwrap_or (slice_get (new_states below plan xs) i) Pending) ≡ false
new_states-fails test h below [] xs i e = e
new_states-fails test h below (p ∷ plan) [] i e = e
new_states-fails test h below (p ∷ plan) (x ∷ xs) zero e = next_of-fails test h below p.form p.sources x e
new_states-fails test h below (p ∷ plan) (x ∷ xs) (suc i) e = new_states-fails test h (below ++ next_of below p.form p.sources x ∷ []) plan xs i e

push-fails : (test : Stage → Bool) → IsLostForGood test → (xs : List Stage) (i : ℕ) → test (unwrap_or (slice_get xs i) Pending) ≡ false → test (unwrap_or (slice_get (xs ++ Pending ∷ []) i) Pending) ≡ false
push-fails test h [] i e = let passes = h.pending in cc
push-fails test h (x ∷ xs) zero e = e
push-fails test h (x ∷ xs) (suc i) e = push-fails test h xs i e

StaysLost : (Stage → Bool) → ℕ → List Stage → ℕ → List Stage → ℕ → Type 0
StaysLost test i xs a ys b = test (unwrap_or (slice_get xs i) Pending) ≡ false → test (unwrap_or (slice_get ys i) Pending) ≡ false

stays_lost-kept : (test : Stage → Bool) → IsLostForGood test → (i : ℕ) → IsKept (StaysLost test i)
unfolding StaysLost
stays_lost-kept test h i = record {
  same = λ xs a e. e;
  then = λ xs a ys b zs c f g e. g (f e);
  settles = λ plan xs a d o unsettled e. new_states-fails test h [] plan (set xs d (Settled o)) i (set-fails test xs d i (Settled o) (h.settled o) e);
  claims = λ xs a d args ready e. set-fails test xs d i Claimed h.claimed e;
  links = λ xs a d j unsettled e. set-fails test xs d i (Linked j) (h.linked j) e;
  attaches = λ plan xs a e. new_states-fails test h [] plan (xs ++ Pending ∷ []) i (push-fails test h xs i e);
}

-- whatever events come
pub state_after-fails : (test : Stage → Bool) → IsLostForGood test → (s : State) (events : List Event) (i : ℕ) → test (stage_at s i) ≡ false → test (stage_at (state_after s events) i) ≡ false
unfolding StaysLost
state_after-fails test h s events i e = state_after-kept (StaysLost test i) (stays_lost-kept test h i) events s e
