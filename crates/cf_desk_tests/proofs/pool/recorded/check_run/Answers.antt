use Rattle.std.specs.Prelude.{None}
use Rattle.cf_desk_tests.proofs.Alike.{alike}
use Rattle.cf_desk_tests.proofs.pool.recorded.check_run.Goals as goal

pub run-requires-clause-alike : goal.run-requires-clause-alike
run-requires-clause-alike g c κs within = alike (λ number args. None) _
