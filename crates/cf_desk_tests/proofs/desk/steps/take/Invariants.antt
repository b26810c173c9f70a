use Rattle.std.proofs.Common.{◌≡◌}
use Rattle.cf_desk_tests.proofs.desk.steps.take.Given as goal

abbrev pub invariant-turns : goal.invariant-turns
invariant-turns g l = (l.a.table ≡ l.initial.a.table) × (l.b.table ≡ l.initial.b.table)
