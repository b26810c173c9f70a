use Rattle.std.proofs.Common.{◌≡◌, ◌≤◌, ◌+◌, ◌++◌, map, vec_len, vec_capacity}
use Rattle.std.specs.Vec.Iter.{into_iter_items, into_iter_len}
use Rattle.cf_pool.proofs.pool.pair.Given as goal

abbrev pub invariant-next : goal.invariant-next
invariant-next g l = record {
  passes : l.fn.passes.items ≡ map (λ w. w.0) l.pairs.items ++ into_iter_items l.rest;
  workers : l.fn.workers.items ≡ map (λ w. w.1) l.pairs.items ++ into_iter_items l.hands;
  left : into_iter_len l.rest ≡ into_iter_len l.hands;
  room : vec_len l.pairs + into_iter_len l.rest ≤ vec_capacity l.pairs;
}

abbrev pub decreases-next : goal.decreases-next
decreases-next g l = into_iter_len l.rest
