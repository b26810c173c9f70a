-- Ends that differ.
use Rattle.std.proofs.Common.{◌≡◌, ◌+◌, ◌<◌, ℕ, List, [], ◌∷◌, ◌++◌, Option, Some, length, set, ap, inl, inr, sym, ◌∙◌, zero, suc, refl, arith, subst}
use Rattle.std.specs.Prelude.{◌⊎◌, slice_get}
use Rattle.std.proofs.Math.Nat.{eq-or-lt_of_le}
use Rattle.std.proofs.lemmas.Option.{none-some, same_Some}
use Rattle.cf_outcome.specs.declared.outcome.Outcome.{Outcome}
use Rattle.cf_forms.proofs.ListLemmas.{slice_get-push}
use Rattle.cf_explore.specs.declared.found.End.{End}
use Rattle.cf_explore.specs.Found.{AreApart, AreOthers, HasOutcomes}

apart-by : (ends : List End) (new e g : End) (outcomes : List (Option Outcome)) (i j : ℕ) → new.outcomes.items ≡ outcomes → AreOthers ends outcomes → AreApart ends →
    e.outcomes.items ≡ g.outcomes.items → (slice_get ends i ≡ Some e) ⊎ ((i ≡ length ends) × (new ≡ e)) → (slice_get ends j ≡ Some g) ⊎ ((j ≡ length ends) × (new ≡ g)) → i ≡ j
apart-by ends new e g outcomes i j is others apart same (inl first) (inl second) = apart i j e g first second same
apart-by ends new e g outcomes i j is others apart same (inl first) (inr last) =
    absurd (others i (e, first, same ∙ sym (ap (λ (x : End). x.outcomes.items) last.1) ∙ is))
apart-by ends new e g outcomes i j is others apart same (inr last) (inl second) =
    absurd (others j (g, second, sym same ∙ sym (ap (λ (x : End). x.outcomes.items) last.1) ∙ is))
apart-by ends new e g outcomes i j is others apart same (inr last) (inr also) = last.0 ∙ sym also.0

-- one that has other outcomes stands behind them
pub apart-pushed : (ends : List End) (new : End) (outcomes : List (Option Outcome)) → new.outcomes.items ≡ outcomes → AreOthers ends outcomes → AreApart ends → AreApart (ends ++ new ∷ [])
apart-pushed ends new outcomes is others apart = λ i j e g first second same.
    apart-by ends new e g outcomes i j is others apart same (slice_get-push ends new i e first) (slice_get-push ends new j g second)

-- one is changed, and keeps its outcomes
set-back : (ends : List End) (k : ℕ) (w v : End) (i : ℕ) (e : End) → slice_get ends k ≡ Some w → v.outcomes.items ≡ w.outcomes.items →
    slice_get (set ends k v) i ≡ Some e → HasOutcomes ends i e.outcomes.items
set-back [] k w v i e at is h = absurd (none-some w at)
set-back (x ∷ ends) zero w v zero e at is h = (w, at, sym is ∙ ap (λ (y : End). y.outcomes.items) (same_Some v e h))
set-back (x ∷ ends) zero w v (suc i) e at is h = (e, h, refl)
set-back (x ∷ ends) (suc k) w v zero e at is h = (e, h, refl)
set-back (x ∷ ends) (suc k) w v (suc i) e at is h = set-back ends k w v i e at is h

pub apart-set : (ends : List End) (k : ℕ) (w v : End) → slice_get ends k ≡ Some w → v.outcomes.items ≡ w.outcomes.items → AreApart ends → AreApart (set ends k v)
apart-set ends k w v at is apart = λ i j e g first second same.
    let a = set-back ends k w v i e at is first in
    let b = set-back ends k w v j g at is second in
    apart i j a.0 b.0 a.1 b.1 (a.2 ∙ same ∙ sym b.2)

none-by : (ends : List End) (outcomes : List (Option Outcome)) (i : ℕ) → ((j : ℕ) → j < i → HasOutcomes ends j outcomes → ⊥) → (HasOutcomes ends i outcomes → ⊥) →
    (j : ℕ) → HasOutcomes ends j outcomes → (j ≡ i) ⊎ (j < i) → ⊥
none-by ends outcomes i before here j h (inl is) = here (subst (λ (k : ℕ). HasOutcomes ends k outcomes) is h)
none-by ends outcomes i before here j h (inr less) = before j less h

-- none of the first ends has these outcomes, and the next one neither
pub none-more : (ends : List End) (outcomes : List (Option Outcome)) (i : ℕ) → ((j : ℕ) → j < i → HasOutcomes ends j outcomes → ⊥) → (HasOutcomes ends i outcomes → ⊥) →
    (j : ℕ) → j < i + 1 → HasOutcomes ends j outcomes → ⊥
none-more ends outcomes i before here j less h = none-by ends outcomes i before here j h (eq-or-lt_of_le (omega arith))
