use Rattle.std.proofs.Common.{◌≡◌}
use Rattle.cf_bench.proofs.calls.ready_on.Given as goal

abbrev pub invariant-loop : goal.invariant-loop
invariant-loop l = l.p.table ≡ l.initial.p.table
