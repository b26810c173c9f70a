use Rattle.std.proofs.Common.{rules, ◌<◌, ℕ, length, take, refl, arith}
use Rattle.cf_c_handles.specs.Rounds.{finished_all, finished_task}
use Rattle.cf_c_handles.specs.declared.values.task.CfTask.{CfTask}
use Rattle.cf_c_handles.proofs.Rounds.{each_task, finished_next, given_next, kept_next, plan_next, there_at}
use Rattle.cf_c_handles.proofs.graph.rounds.finish_all.Goals as goal

pub finish-requires : goal.finish-requires
finish-requires c = there_at c.args.who c.args.graph.now.state c.each.graph.state c.args.tasks.now c.each.tasks c.each.k _
    (let t = c.each-test.true in let e = c.each.auto.k-end in let r = c.each.invariant.reach in omega arith) c.each.invariant.reach (c.each.invariant.kept c.each.k (omega arith)) c.each.invariant.plan c.requires

pub each-preserved : goal.each-preserved
each-preserved c =
    let within : c.each.k < length c.args.tasks.now = (let t = c.each-test.true in let e = c.each.auto.k-end in let r = c.each.invariant.reach in omega arith) in
    let here = c.each.invariant.kept c.each.k (omega arith) in
    record {
      state = finished_next c.args.who c.args.graph.now.state c.each.graph.state c.finish.new.graph.state c.args.tasks.now c.each.tasks c.each.k _ _ within c.each.invariant.reach here c.each.invariant.state refl c.finish.ensures.state;
      plan = plan_next c.args.who c.each.graph.state c.finish.new.graph.state _ c.args.graph.now.state.plan c.each.invariant.plan c.finish.ensures.state;
      reach = search rules;
      given = given_next c.args.who c.args.graph.now.state c.each.graph.state c.args.tasks.now c.each.tasks c.each.k c.finish.new.task _ within c.each.invariant.reach here c.each.invariant.state c.finish.ensures.task c.each.invariant.given;
      kept = kept_next c.args.tasks.now c.each.tasks c.each.k c.finish.new.task c.each.invariant.kept;
    }

pub returns-clause-tasks : goal.returns-clause-tasks
returns-clause-tasks c = record {
  all = c.each.invariant.reach;
  each = each_task (λ (k : ℕ) (t : CfTask). finished_task c.args.who (finished_all c.args.who c.args.graph.now.state (take k c.args.tasks.now)) t) c.each.k c.args.tasks.now c.each.tasks c.each.invariant.reach
      (let t = c.each-test.false in let e = c.each.auto.k-end in let r = c.each.invariant.reach in omega arith) c.each.invariant.given;
}
