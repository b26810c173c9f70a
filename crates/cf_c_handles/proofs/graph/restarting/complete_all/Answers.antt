use Rattle.std.proofs.Common.{arith, length}
use Rattle.cf_c_handles.proofs.Restarts.{given_more, still_there}
use Rattle.cf_c_handles.proofs.graph.restarting.complete_all.Goals as goal

pub each-preserved : goal.each-preserved
each-preserved c = record {
  done = given_more c.args.graph.now.state c.args.given.now c.each.k _ c.each.graph.state c.complete.new.self.state c.complete.result c.value_of.result (omega arith) c.each.invariant.done c.value_of.ensures c.complete.ensures.told;
  stages = still_there (length c.args.graph.now.state.plan.stages) c.each.graph.state c.complete.new.self.state c.complete.result c.value_of.result _ c.each.invariant.stages c.value_of.ensures c.complete.ensures.told;
}
