use Rattle.std.proofs.Common.{◌≡◌, ◌≤◌, ◌+◌, false, MatchResult, vec_len, vec_capacity}
use Rattle.std.specs.Vec.Iter.{into_iter_items, into_iter_len}
use Rattle.cf_pool.specs.Runs.{IsWorkedBy}
use Rattle.cf_pool.proofs.Pools.{PoolGoesOn}
use Rattle.cf_pool.proofs.pool.join_all.Given as goal

abbrev pub invariant-next : goal.invariant-next
invariant-next g l = record {
  left : vec_len l.worked + into_iter_len l.rest ≤ vec_capacity l.worked;
  each : PoolGoesOn (λ s x. MatchResult s (λ h. IsWorkedBy g.W.Worker.tells g.W.Functions.calls g.W.Worker.answers h.promise.desk.value 1000 h.promise.was.value x × (x.alone ≡ false)) (λ w. x ≡ w)) l.fn.started.items (into_iter_items l.rest) l.worked.items;
}

abbrev pub decreases-next : goal.decreases-next
decreases-next g l = into_iter_len l.rest
