-- Sums over the callers, or the stages, below a number.
use Rattle.std.proofs.Common.{◌≡◌, ◌≢◌, ℕ, zero, suc, ◌+◌, ◌*◌, ◌<◌, ◌≤◌, Bool, true, false, cond, eqb, arith, refl, ap, ◌∙◌}
use Rattle.std.proofs.lemmas.Bool.{eqb-true, eqb-false, false_from_ne_true}
use native.Mathlib.Nat.{mul-suc}

abbrev pub total : ℕ → (ℕ → ℕ) → ℕ
total zero f = 0
total (suc n) f = f n + total n f

pub total_zero : (n : ℕ) (f : ℕ → ℕ) → ((k : ℕ) → f k ≡ 0) → total n f ≡ 0
total_zero zero f h = refl
total_zero (suc n) f h = let a = h n in let b = total_zero n f h in omega arith

-- each part is at most so much more
pub total_most : (a n : ℕ) (f g : ℕ → ℕ) → ((k : ℕ) → k < n → f k ≤ a + g k) → total n f ≤ a * n + total n g
total_most a zero f g h = omega arith
total_most a (suc n) f g h =
    let one = h n (let l : n < suc n = omega arith in l) in
    let rest = total_most a n f g (λ k l. h k (omega arith)) in
    let times = mul-suc a n in
    omega (arith, one, rest, times)

-- one part is so much more, and the others are the same
total_past : (w a n : ℕ) (f g : ℕ → ℕ) → ((k : ℕ) → f k ≡ cond (eqb w k) a 0 + g k) → n ≤ w → total n f ≡ total n g
total_past w a zero f g h le = refl
total_past w a (suc n) f g h le =
    let rest = total_past w a n f g h (omega arith) in
    let other : eqb w n ≡ false = false_from_ne_true (eqb w n) (λ e. let same = eqb-true w n e in omega arith) in
    let one : f n ≡ g n = h n ∙ ap (λ (b : Bool). cond b a 0 + g n) other ∙ (let e : 0 + g n ≡ g n = omega arith in e) in
    omega arith

pub total_more : (w a n : ℕ) (f g : ℕ → ℕ) → ((k : ℕ) → f k ≡ cond (eqb w k) a 0 + g k) → w < n → total n f ≡ a + total n g
total_more w a zero f g h lt = absurd (omega arith)
total_more w a (suc n) f g h lt = split (eqb w n) refl (total_more w a n f g h)
  where
    split : (b : Bool) → eqb w n ≡ b → (w < n → total n f ≡ a + total n g) → total (suc n) f ≡ a + total (suc n) g
    split true t more =
        let rest = total_past w a n f g h (let same = eqb-true w n t in omega arith) in
        let one : f n ≡ a + g n = h n ∙ ap (λ (b : Bool). cond b a 0 + g n) t in
        omega arith
    split false t more =
        let rest = more (let no = eqb-false w n t in let ne : w ≢ n = no in omega arith) in
        let one : f n ≡ g n = h n ∙ ap (λ (b : Bool). cond b a 0 + g n) t ∙ (let e : 0 + g n ≡ g n = omega arith in e) in
        omega arith
