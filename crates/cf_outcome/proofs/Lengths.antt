-- How long the texts of numbers are.
use Rattle.std.proofs.Common.{◌≡◌, ℕ, ◌+◌, ◌/◌, ◌%◌, ◌^◌, ◌<◌, ◌≤◌, [], ◌∷◌, length, ap, ◌∙◌, arith}
use Rattle.std.proofs.Math.ListN.{length-append}
use Rattle.std.specs.Fmt.{decimal}
use Rattle.std.proofs.lemmas.Fmt.{decimal_digit, decimal_step, length-decimal-le}

pub length_decimal_digit : (n : ℕ) → n < 10 → length (decimal n) ≡ 1
length_decimal_digit n h = ap length (decimal_digit n h)

pub length_decimal_step : (n : ℕ) → 10 ≤ n → n < 2 ^ 64 → length (decimal n) ≡ length (decimal (n / 10)) + 1
length_decimal_step n h small = ap length (decimal_step n h small) ∙ length-append (decimal (n / 10)) ((48 + n % 10) ∷ [])

-- a number of 32 bits has at most ten digits
pub number_is_short : (n : ℕ) → n < 2 ^ 32 → length (decimal n) ≤ 10
number_is_short n h = length-decimal-le 10 n (omega arith) (omega arith) (omega arith)
