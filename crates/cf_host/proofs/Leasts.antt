-- The least of a list.
use Rattle.std.proofs.Common.{◌≡◌, ℕ, ◌≤◌, List, [], ◌∷◌, ◌∙◌, arith, drop, length, sym}
use Rattle.std.specs.Prelude.{min}
use Rattle.std.proofs.Math.Nat.{min-eq_left, min-eq_right, min-le_left, min-le_right}
use Rattle.std.proofs.lemmas.List.{at_drop_all}
use Rattle.cf_turn.specs.Timers.{never}
use Rattle.cf_host.specs.Waking.{least}

pub least_low : {A : Type 0} (of : A → ℕ) (xs : List A) → least of xs ≤ never
least_low of [] = omega arith
least_low of (x ∷ xs) = let right = min-le_right (of x) (least of xs) in let rest = least_low of xs in omega (arith, right, rest)

-- before the first one
pub least_begun : {A : Type 0} (of : A → ℕ) (xs : List A) → least of xs ≡ min never (least of xs)
least_begun of xs = sym (min-eq_right (least_low of xs))

-- at the end
pub least_ended : {A : Type 0} (of : A → ℕ) (xs : List A) (i first : ℕ) → length xs ≤ i → first ≤ never → least of xs ≡ min first (least of (drop i xs)) → first ≡ least of xs
least_ended of xs i first past low is = sym (is ∙ at_drop_all (λ (l : List _). min first (least of l)) xs i past ∙ min-eq_left low)

pub min_low : (a b : ℕ) → a ≤ never → min a b ≤ never
min_low a b low = let left = min-le_left a b in omega (arith, low, left)
