use Rattle.std.proofs.Common.{◌≡◌, All, vec_len}
use Rattle.cf_pool.proofs.workers.share.Given as goal

abbrev pub invariant-workers : goal.invariant-workers
invariant-workers g l = record {
  same : All (λ w. w.functions.now ≡ l.functions) l.workers.items;
  count : vec_len l.workers ≡ l.counter;
}
