use Rattle.std.proofs.Common.{ℕ, ◌<◌}
use Rattle.cf_explore.specs.Layers.{IsAt}
use Rattle.cf_explore.proofs.layer.search.Given as goal

-- it stands at none so far
abbrev pub invariant-loop-i : goal.invariant-loop-i
invariant-loop-i l = (j : ℕ) → j < l.i → IsAt l.entries j l.situation → ⊥
