-- What holds of each text of others.
use Rattle.std.specs.Prelude.{◌≡◌, ℕ, true, All}
use Rattle.cf_text.specs.Names.{is_shown}
use Rattle.cf_telling.specs.Escapes.{written_as}
use Rattle.cf_telling.specs.declared.text.Within.{Within}

-- only characters that are shown are written: none ends a line or turns its direction
abbrev pub TextsAreShown : Type 0
TextsAreShown = (within : Within) (c : ℕ) → All (λ d. is_shown d ≡ true) (written_as within c)
