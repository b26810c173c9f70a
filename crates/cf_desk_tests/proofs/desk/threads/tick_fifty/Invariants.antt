use Rattle.std.proofs.Common.{◌≡◌}
use Rattle.cf_desk_tests.proofs.desk.threads.tick_fifty.Given as goal

abbrev pub invariant-loop : goal.invariant-loop
invariant-loop l = l.p.table ≡ l.initial.p.table
