-- Numbers that are counted up to m.
use Rattle.std.proofs.Common.{◌≡◌, ℕ, ◌+◌, ◌*◌, ◌≤◌, ◌<◌, inl, inr, arith, refl, zero, suc}
use Rattle.std.specs.Prelude.{min, ◌⊎◌}
use Rattle.std.proofs.Math.Nat.{mul-suc, suc-mul}
use Rattle.std.proofs.lemmas.Bool.{cases_lt}

pub add-times : (a b f : ℕ) → (a + b) * f ≡ a * f + b * f
add-times a b zero = omega arith
add-times a b (suc f) = omega (arith, mul-suc (a + b) f, mul-suc a f, mul-suc b f, add-times a b f)

pub times-add : (o s t : ℕ) → o * (s + t) ≡ o * s + o * t
times-add zero s t = omega arith
times-add (suc o) s t = omega (arith, suc-mul o (s + t), suc-mul o s, suc-mul o t, times-add o s t)

-- more of both
pub counted-add : (m a b c : ℕ) → min a m ≡ min b m → min (a + c) m ≡ min (b + c) m
counted-add m a b c h = omega arith

-- what is counted may be multiplied
times-counted_by : (m a f : ℕ) → ((m < a) ⊎ (a ≤ m)) → min (min a m * suc f) m ≡ min (a * suc f) m
times-counted_by m a f (inl above) =
    let is : min a m ≡ m = omega arith in
    rw is (omega (arith, mul-suc m f, mul-suc a f))
times-counted_by m a f (inr below) =
    let is : min a m ≡ a = omega arith in
    rw is refl

pub times-counted : (m a f : ℕ) → min (min a m * f) m ≡ min (a * f) m
times-counted m a zero = omega arith
times-counted m a (suc f) = times-counted_by m a f (cases_lt m a)

-- one term of a sum was counted higher
pub counted-merge : (m old new e o f : ℕ) → new + e * f ≡ old + min (e + o) m * f → e * f ≤ old → min new m ≡ min (old + o * f) m
counted-merge m old new e o f is within =
    let times = times-counted m (e + o) f in
    let apart = add-times e o f in
    omega arith

-- one term more of a product
pub counted-more : (m first now next o s t : ℕ) → min next m ≡ min (now + o * t) m → min now m ≡ min (first + o * s) m → min next m ≡ min (first + o * (s + t)) m
counted-more m first now next o s t step so_far =
    let apart = times-add o s t in
    omega arith

-- nothing is counted only where nothing is there
pub counted-none : (m a : ℕ) → 0 < m → min 0 m ≡ min a m → a ≡ 0
counted-none m a some h = omega arith

-- both parts of a sum
pub counted-both : (m a b c d : ℕ) → min a m ≡ min c m → min b m ≡ min d m → min (a + b) m ≡ min (c + d) m
counted-both m a b c d e f = omega arith
