use Rattle.std.proofs.Common.{◌≡◌, ◌≤◌, ◌+◌, true, All, MatchResult, vec_len, vec_capacity}
use Rattle.std.specs.Vec.Iter.{into_iter_items, into_iter_len}
use Rattle.cf_desk.specs.Views.{IsOf}
use Rattle.cf_pool.specs.Runs.{IsWorkedBy}
use Rattle.cf_pool.proofs.Pools.{PoolGoesOn}
use Rattle.cf_pool.proofs.pool.start_all.Given as goal

abbrev pub invariant-next : goal.invariant-next
invariant-next g l = record {
  all : All (λ w. IsOf l.desk w.0) (into_iter_items l.rest);
  left : vec_len l.started + into_iter_len l.rest ≤ vec_capacity l.started;
  each : PoolGoesOn (λ one s. MatchResult s (λ h. (h.promise.was.value ≡ one) × (h.promise.desk.value ≡ l.desk)) (λ w. IsWorkedBy g.W.Worker.tells g.W.Functions.calls g.W.Worker.answers l.desk 1000 one w × (w.alone ≡ true))) l.fn.workers.items (into_iter_items l.rest) l.started.items;
}

abbrev pub decreases-next : goal.decreases-next
decreases-next g l = into_iter_len l.rest
