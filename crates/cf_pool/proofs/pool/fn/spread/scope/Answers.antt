use Rattle.std.proofs.Common.{arith}
use Rattle.cf_pool.proofs.Pools.{work_ended, zip_through}
use Rattle.cf_pool.proofs.Runs.{zip_length}
use Rattle.cf_pool.proofs.pool.fn.spread.scope.Goals as goal

pub returns : goal.returns
returns g c =
    zip_through _ _ _
    (work_ended g.W.Worker.tells g.W.Functions.calls g.W.Worker.answers (λ h. h.promise.was.value) (λ h. h.promise.desk.value) c.captures.desk.now)
    c.captures.workers.items c.start_all-started.result.items c.join_all.result.items c.start_all-started.ensures c.join_all.ensures

pub join_all-requires : goal.join_all-requires
join_all-requires g c = record {
  none = c.requires.none.1;
  room = (let z = zip_length _ c.captures.workers.items c.start_all-started.result.items c.start_all-started.ensures in let a = c.start_all-started.result.ok.0 in let b = c.captures.workers.ok.0 in let r = c.requires.room.1 in omega arith);
}
