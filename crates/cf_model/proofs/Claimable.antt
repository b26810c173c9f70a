-- How many stages may still be claimed: the measure by which serving all ready stages ends.
use Rattle.std.proofs.Common.{◌≡◌, ℕ, ◌+◌, ◌<◌, ◌≤◌, ◌∷◌, ◌++◌, [], List, Bool, true, false, cond, Some, suc, zero, arith, ap, ◌∙◌, refl, set}
use Rattle.std.specs.Prelude.{count_by, slice_get}
use Rattle.std.proofs.lemmas.List.Sums.{sum_by-cons, sum_by-append}
use Rattle.cf_forms.specs.declared.forms.Args.{Args}
use Rattle.cf_forms.specs.declared.forms.Form.{Form}
use Rattle.cf_forms.specs.Plans.{Planned, PlannedStage}
use Rattle.cf_model.specs.declared.stage.Stage.{Stage}
use Rattle.cf_model.specs.declared.stage.Stage.TheVariants.{Pending, Ready, Claimed, Linked, Settled}
use Rattle.cf_model.specs.declared.replies.Claimed.TheVariants.{Granted}
use Rattle.cf_model.specs.declared.events.Event.{Event}
use Rattle.cf_model.specs.States.{State, outcome_in, stage_at, next_of, new_states, is_ready}
use Rattle.cf_model.specs.Events.{answered, claimed_by, claiming, state_after}
use Rattle.cf_model.specs.Claims.{is_claimable, claimable_count}
use Rattle.cf_model.specs.Laws.{NeverMoreClaimable, GrantsLeaveFewer, NeverReadyAgain}
use Rattle.cf_model.proofs.Lost.{IsLostForGood, linked_state-fails, state_after-fails}
use Rattle.cf_model.proofs.Moves.{IsKept, answered-kept, there}
use Rattle.cf_model.proofs.Shape.{answered-frame}
use Rattle.cf_model.specs.Calls.{is_attach}

count-cons : (x : Stage) (xs : List Stage) → count_by is_claimable (x ∷ xs) ≡ cond (is_claimable x) 1 0 + count_by is_claimable xs
count-cons x xs = sum_by-cons (λ y. cond (is_claimable y) 1 0) x xs

-- a stage that can't be claimed is written
pub count-set : (xs : List Stage) (i : ℕ) (y : Stage) → is_claimable y ≡ false → count_by is_claimable (set xs i y) ≤ count_by is_claimable xs
count-set [] i y e = omega arith
count-set (x ∷ xs) zero y e = rw (count-cons y xs, count-cons x xs, e) (omega arith)
count-set (x ∷ xs) (suc i) y e = rw (count-cons x (set xs i y), count-cons x xs) (let rest = count-set xs i y e in omega arith)

-- in place of one that could be
pub count-set_less : (xs : List Stage) (i : ℕ) (x y : Stage) → slice_get xs i ≡ Some x → is_claimable x ≡ true → is_claimable y ≡ false → count_by is_claimable (set xs i y) < count_by is_claimable xs
count-set_less [] i x y at was is = cc
count-set_less (z ∷ xs) zero x y at was is =
    let same : is_claimable z ≡ true = let e : z ≡ x = cc in ap is_claimable e ∙ was in
    rw (count-cons y xs, count-cons z xs, is, same) (omega arith)
count-set_less (z ∷ xs) (suc i) x y at was is =
    rw (count-cons z (set xs i y), count-cons z xs) (let rest = count-set_less xs i x y at was is in omega arith)

-- among the new states no more may be claimed
at_most_one : (b : Bool) → cond b 1 0 ≤ 1
at_most_one true = omega arith
at_most_one false = omega arith

claimable_lost : IsLostForGood is_claimable
claimable_lost = record { pending = refl; claimed = refl; linked = λ j. refl; settled = λ o. refl }

next_of-count : (below : List Stage) (form : Form) (sources : List ℕ) (x : Stage) → cond (is_claimable (next_of below form sources x)) 1 0 ≤ cond (is_claimable x) 1 0
next_of-count below form sources Pending = at_most_one (is_claimable (next_of below form sources Pending))
next_of-count below form sources (Ready args) = omega arith
next_of-count below form sources Claimed = omega arith
next_of-count below form sources (Linked j) = rw (linked_state-fails is_claimable claimable_lost j (outcome_in below j)) (omega arith)
next_of-count below form sources (Settled o) = omega arith

pub new_states-count : (below : List Stage) (plan : List PlannedStage) (xs : List Stage) → count_by is_claimable (new_states below plan xs) ≤ count_by is_claimable xs
new_states-count below [] xs = omega arith
new_states-count below (p ∷ plan) [] = omega arith
new_states-count below (p ∷ plan) (x ∷ xs) =
    let new = next_of below p.form p.sources x in
    let here = next_of-count below p.form p.sources x in
    let rest = new_states-count (below ++ new ∷ []) plan xs in
    rw (count-cons new (new_states (below ++ new ∷ []) plan xs), count-cons x xs) (omega (arith, here, rest))

NoMore : List Stage → ℕ → List Stage → ℕ → Type 0
NoMore xs a ys b = count_by is_claimable ys + b ≤ count_by is_claimable xs + a

no_more-kept : IsKept NoMore
unfolding NoMore
no_more-kept = record {
  same = λ xs a. omega arith;
  then = λ xs a ys b zs c f g. omega (arith, f, g);
  settles = λ plan xs a d o unsettled.
      let new = new_states-count [] plan (set xs d (Settled o)) in
      let written = count-set xs d (Settled o) refl in omega (arith, new, written);
  claims = λ xs a i args ready. (let written = count-set xs i Claimed refl in omega (arith, written));
  links = λ xs a i j unsettled. (let written = count-set xs i (Linked j) refl in omega (arith, written));
  attaches = λ plan xs a.
      let new = new_states-count [] plan (xs ++ Pending ∷ []) in
      let pushed = sum_by-append (λ y. cond (is_claimable y) 1 0) xs (Pending ∷ []) in
      let one = count-cons Pending [] in
      let none : count_by is_claimable [] ≡ 0 = refl in omega (arith, new, pushed, one, none);
}

-- no event makes more stages claimable
pub answered-claimable : NeverMoreClaimable
unfolding NoMore
answered-claimable s e = answered-kept NoMore no_more-kept e s

-- nor without those that there is room for, where none is attached
pub others-claimable : (s : State) (e : Event) → is_attach e ≡ false → claimable_count ((answered s e).1) ≤ claimable_count s
others-claimable s e other =
    let all = answered-claimable s e in
    let room = ap (λ (p : Planned). p.room) ((answered-frame s e other).plan) in
    omega (arith, all, room)

-- a granted claim makes one fewer
claimed_by-claimable : (x : Stage) (s : State) (who i : ℕ) (args : Args) → stage_at s i ≡ x → (claimed_by x s who i).0 ≡ Granted args → claimable_count ((claimed_by x s who i).1) < claimable_count s
claimed_by-claimable (Ready given) s who i args e g =
    count-set_less s.stages i (Ready given) Claimed (there (slice_get s.stages i) (Ready given) e (λ h. cc)) refl refl
claimed_by-claimable (Settled o) s who i args e g = cc
claimed_by-claimable Claimed s who i args e g = cc
claimed_by-claimable (Linked j) s who i args e g = cc
claimed_by-claimable Pending s who i args e g = cc

pub claiming-claimable : GrantsLeaveFewer
claiming-claimable s who i args g = claimed_by-claimable (stage_at s i) s who i args refl g

-- ---- a stage that can't be claimed any more

-- it stays so, whatever events come
pub state_after-not_claimable : (s : State) (events : List Event) (i : ℕ) → is_claimable (stage_at s i) ≡ false → is_claimable (stage_at (state_after s events) i) ≡ false
state_after-not_claimable s events i e = state_after-fails is_claimable claimable_lost s events i e

pub not_claimable-not_ready : (x : Stage) → is_claimable x ≡ false → is_ready x ≡ false
not_claimable-not_ready Pending e = refl
not_claimable-not_ready (Ready args) e = cc
not_claimable-not_ready Claimed e = refl
not_claimable-not_ready (Linked j) e = refl
not_claimable-not_ready (Settled o) e = refl

pub never_ready_again : NeverReadyAgain
never_ready_again s events i e = not_claimable-not_ready (stage_at (state_after s events) i) (state_after-not_claimable s events i e)

-- the claim of a ready stage is granted
claimed_by-granted : (x : Stage) (s : State) (who i : ℕ) → is_ready x ≡ true → (args : Args) × ((claimed_by x s who i).0 ≡ Granted args)
claimed_by-granted (Ready args) s who i e = (args, refl)
claimed_by-granted (Settled o) s who i e = cc
claimed_by-granted Claimed s who i e = cc
claimed_by-granted (Linked j) s who i e = cc
claimed_by-granted Pending s who i e = cc

pub ready-granted : (s : State) (who i : ℕ) → is_ready (stage_at s i) ≡ true → (args : Args) × ((claiming s who i).0 ≡ Granted args)
ready-granted s who i e = claimed_by-granted (stage_at s i) s who i e
