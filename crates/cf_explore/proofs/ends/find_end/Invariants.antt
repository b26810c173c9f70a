use Rattle.std.proofs.Common.{ℕ, ◌<◌}
use Rattle.cf_explore.specs.Found.{HasOutcomes}
use Rattle.cf_explore.proofs.ends.find_end.Given as goal

-- none so far has them
abbrev pub invariant-loop-i : goal.invariant-loop-i
invariant-loop-i l = (j : ℕ) → j < l.i → HasOutcomes l.ends j l.outcomes → ⊥
