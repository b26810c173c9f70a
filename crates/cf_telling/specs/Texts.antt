-- Texts that are written piece by piece.
use Rattle.std.specs.Prelude.{◌≡◌, ℕ, Bool, true, false, List, ◌++◌, encode_utf8_all}
use Rattle.std.specs.List.{flat_map}
use Rattle.std.specs.Str.{chars}
use Rattle.cf_telling.specs.Escapes.{written_as}
use Rattle.cf_telling.specs.declared.text.Within.{Within}

-- the bytes of a text so far, where it is read, and whether memory was refused for a piece
pub record Written : Type 0 where
  pub bytes : List ℕ
  pub within : Within
  pub is_short : Bool

-- These bytes stand behind what was there, unless memory was refused for a piece, now or before. Then it takes nothing more.
pub record Adds (bytes : List ℕ) (old new : Written) : Type 0 where
  pub whole : new.is_short ≡ false → (old.is_short ≡ false) × (new.bytes ≡ old.bytes ++ bytes)
  pub short : old.is_short ≡ true → new ≡ old
  pub within : new.within ≡ old.within

-- a text of others as it is written: each of its characters, in turn
abbrev pub written : Within → List ℕ → List ℕ
written within said = flat_map (λ c. encode_utf8_all (written_as within c)) (chars said)
