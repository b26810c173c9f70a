use Rattle.std.proofs.Common.{◌≡◌}
use Rattle.cf_bench.proofs.calls.claimed_on.Given as goal

abbrev pub invariant-loop-i : goal.invariant-loop-i
invariant-loop-i l = l.p.table ≡ l.initial.p.table
