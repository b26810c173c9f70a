-- As which characters a character of a text of others is written.
use Rattle.std.specs.Prelude.{ℕ, Bool, false, List, [], ◌∷◌, ◌/◌, ◌%◌, ◌==◌, ◌&&◌, ◌||◌, not, if◌then◌else◌}
use Rattle.std.specs.Char.{digit_char}
use Rattle.cf_text.specs.Names.{is_shown}
use Rattle.cf_telling.specs.declared.text.Within.{Within}
use Rattle.cf_telling.specs.declared.text.Within.TheVariants.{Json, Lines, OneLine}

-- a character that is shown, but could end there what the text stands in: " \ < > & ' ` or a semicolon
abbrev pub is_special : Within → ℕ → Bool
is_special Json c = c == 34 || (c == 92 || (c == 60 || (c == 62 || (c == 38 || (c == 39 || c == 96)))))
is_special Lines c = false
is_special OneLine c = c == 59

-- a backslash, u and four hexadecimal digits
abbrev pub by_number : ℕ → List ℕ
by_number c = 92 ∷ 117 ∷ digit_char (c / 4096 % 16) ∷ digit_char (c / 256 % 16) ∷ digit_char (c / 16 % 16) ∷ digit_char (c % 16) ∷ []

-- in lines, a line feed is \n, a carriage return \r, and a tab \t
abbrev pub escape : Within → ℕ → List ℕ
escape Json c = by_number c
escape within c =
    if c == 10 then 92 ∷ 110 ∷ []
    else (if c == 13 then 92 ∷ 114 ∷ []
    else (if c == 9 then 92 ∷ 116 ∷ [] else by_number c))

abbrev pub written_as : Within → ℕ → List ℕ
written_as within c = if is_shown c && not (is_special within c) then c ∷ [] else escape within c
