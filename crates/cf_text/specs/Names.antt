-- Characters of names, which are texts of others: which of them are printed as they are.
use Rattle.std.specs.Prelude.{ℕ, Bool, ◌==◌, ◌||◌, ◌&&◌, not, nat_lt}

-- a control character has no sign
abbrev pub is_control : ℕ → Bool
is_control n = nat_lt n 32 || (nat_lt 126 n && nat_lt n 160)

-- these break a line, or turn the direction of what stands behind them
abbrev pub is_turn : ℕ → Bool
is_turn n = ((n == 8206 || n == 8207) || (nat_lt 8231 n && nat_lt n 8239)) || (nat_lt 8293 n && nat_lt n 8298)

abbrev pub is_shown : ℕ → Bool
is_shown n = not (is_control n || is_turn n)
