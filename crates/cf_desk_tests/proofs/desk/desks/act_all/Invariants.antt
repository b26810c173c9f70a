use Rattle.std.proofs.Common.{◌≡◌}
use Rattle.cf_desk_tests.proofs.desk.desks.act_all.Given as goal

abbrev pub invariant-calls : goal.invariant-calls
invariant-calls l = l.p.table ≡ l.initial.p.table
