use Rattle.cf_pool.proofs.Pools.{stop_step}
use Rattle.cf_pool.proofs.pool.first_fault.Goals as goal

pub loop-w-preserved : goal.loop-w-preserved
loop-w-preserved g c = stop_step c.args.worked.now c.loop-w.w-index c.caller.result c.w-item.result c.loop-w.first c.first_of-first.result c.loop-w-test.true c.w-item.is c.caller.ensures c.first_of-first.ensures c.loop-w.invariant
