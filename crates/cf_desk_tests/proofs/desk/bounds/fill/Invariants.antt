use Rattle.std.proofs.Common.{◌≡◌}
use Rattle.cf_desk_tests.proofs.desk.bounds.fill.Given as goal

abbrev pub invariant-loop-now : goal.invariant-loop-now
invariant-loop-now l = l.p.table ≡ l.initial.p.table
