use Rattle.std.proofs.Common.{◌≡◌, ◌++◌}
use Rattle.cf_explore.specs.Moves.{claims_by}
use Rattle.cf_explore.proofs.moves.add_claims.Given as goal

-- the claims so far
abbrev pub invariant-loop-i : goal.invariant-loop-i
invariant-loop-i l = l.made.items ≡ l.initial.made.items ++ claims_by l.graph l.fn.w l.i
