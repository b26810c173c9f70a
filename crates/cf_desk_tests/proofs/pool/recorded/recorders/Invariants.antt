use Rattle.std.proofs.Common.{◌≡◌, vec_len}
use Rattle.cf_desk_tests.proofs.pool.recorded.recorders.Given as goal

abbrev pub invariant-workers : goal.invariant-workers
invariant-workers g l = vec_len l.workers ≡ l.counter
