-- Limits that fire one after another.
use Rattle.std.proofs.Common.{◌≡◌, ◌∙◌, ap, Option, None, ◌<◌, ◌+◌, ◌-◌, ℕ, ◌∷◌, [], List, Bool, cond, Some, zero, suc, arith, sym, refl, subst, take, drop}
use Rattle.std.specs.Prelude.{slice_get}
use Rattle.cf_forms.specs.declared.limits.Limit.{Limit}
use Rattle.cf_model.specs.States.{State, outcome_at}
use Rattle.cf_outcome.specs.declared.outcome.Outcome.{Outcome}
use Rattle.cf_model.specs.Events.{settled_by, settling, firing, limit_outcome}

-- the first of what is left
drop-get : (xs : List Limit) (i : ℕ) (x : Limit) → slice_get xs i ≡ Some x → drop i xs ≡ x ∷ drop (suc i) xs
drop-get [] i x e = cc
drop-get (y ∷ xs) zero x e = let same : y ≡ x = cc in rw same refl
drop-get (y ∷ xs) (suc i) x e = drop-get xs i x e

-- one of them has fired
pub firing-more : (limits : List Limit) (used count k fired : ℕ) (s : State) (limit : Limit) (b : Bool) (r : State) →
    k < count → slice_get limits (used + k) ≡ Some limit → (b, r) ≡ settling s limit.stage (limit_outcome limit.kind) →
    firing (cond b (fired + 1) fired) r (take (count - (k + 1)) (drop (used + (k + 1)) limits)) ≡ firing fired s (take (count - k) (drop (used + k) limits))
firing-more limits used count k fired s limit b r l at done =
    let rest = take (count - (k + 1)) (drop (suc (used + k)) limits) in
    let e : count - k ≡ suc (count - (k + 1)) = omega arith in
    let f : used + (k + 1) ≡ suc (used + k) = omega arith in
    let P : Bool × State → Type 0 = λ d. firing (cond d.0 (fired + 1) fired) d.1 rest ≡ firing fired s (limit ∷ rest) in
    rw (f, e, drop-get limits (used + k) limit at) (subst P (sym done) refl)

-- settling keeps the plan and how many limits are used
settled_by-same : (x : Option Outcome) (s : State) (i : ℕ) (o : Outcome) → ((settled_by x s i o).1.plan ≡ s.plan) × ((settled_by x s i o).1.used ≡ s.used)
settled_by-same (Some old) s i o = (refl, refl)
settled_by-same None s i o = (refl, refl)

pub settling-plan : (s : State) (i : ℕ) (o : Outcome) (b : Bool) (r : State) → (b, r) ≡ settling s i o → r.plan ≡ s.plan
settling-plan s i o b r e = ap (λ d. d.1.plan) e ∙ (settled_by-same (outcome_at s i) s i o).0

pub settling-used : (s : State) (i : ℕ) (o : Outcome) (b : Bool) (r : State) → (b, r) ≡ settling s i o → r.used ≡ s.used
settling-used s i o b r e = ap (λ d. d.1.used) e ∙ (settled_by-same (outcome_at s i) s i o).1
