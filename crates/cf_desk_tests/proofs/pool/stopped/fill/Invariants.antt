use Rattle.cf_desk.specs.Views.{IsOf}
use Rattle.cf_desk_tests.proofs.pool.stopped.fill.Given as goal

abbrev pub invariant-loop : goal.invariant-loop
invariant-loop l = IsOf l.desk l.pass
