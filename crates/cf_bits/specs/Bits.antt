-- A set of numbers below a length, kept as words of 64 bits and a word that says which of these aren't 0.
use Rattle.std.specs.Prelude.{◌≡◌, ◌≢◌, ◌==◌, ℕ, ◌/◌, ◌%◌, ◌<◌, ◌≤◌, Bool, List, length, map, min, slice_index}
use Rattle.std.specs.Int.{bit_at}
use Rattle.std.specs.List.{range_with_len}

-- the bit of a number
abbrev pub bit_in : List ℕ → ℕ → ℕ
bit_in words i = bit_at (slice_index words (i / 64)) (i % 64)

-- for each number below the length, whether it is in the set
abbrev pub flags : ℕ → List ℕ → List Bool
flags len words = map (λ i. bit_in words i == 1) (range_with_len 0 len)

-- the upper word has the bits of the words that aren't 0, and no bit is set from the length on
pub record AreBits (len top : ℕ) (words : List ℕ) : Type 0 where
  pub few : len ≤ 4096
  pub count : length words ≡ 64
  pub tops : (w : ℕ) → w < 64 → bit_at top w ≡ min (slice_index words w) 1
  pub above : (i : ℕ) → len ≤ i → i < 4096 → bit_in words i ≡ 0

-- new is old with bit k as b
pub record SetsBit (old new k b : ℕ) : Type 0 where
  pub same : bit_at new k ≡ b
  pub others : (j : ℕ) → j < 64 → j ≢ k → bit_at new j ≡ bit_at old j

-- k is the place of the lowest 1
pub record IsLowestBit (word k : ℕ) : Type 0 where
  pub within : k < 64
  pub here : bit_at word k ≡ 1
  pub below : (j : ℕ) → j < k → bit_at word j ≡ 0
