use Rattle.std.specs.Prelude.{None}
use Rattle.cf_desk_tests.proofs.Alike.{alike}
use Rattle.cf_desk_tests.proofs.pool.recorded.check_race.Goals as goal

pub race-requires-clause-alike : goal.race-requires-clause-alike
race-requires-clause-alike g c κs within = alike (λ number args. None) _
