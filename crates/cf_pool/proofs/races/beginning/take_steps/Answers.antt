use Rattle.std.proofs.Common.{◌∙◌}
use Rattle.cf_pool.proofs.Racing.Begun.{one_taken, step_refused}
use Rattle.cf_pool.proofs.races.beginning.take_steps.Goals as goal

pub returns-in-Err-clause-took : goal.returns-in-Err-clause-took
returns-in-Err-clause-took c =
    step_refused c.args.desk.now c.args.steps.now c.loop-step.step-index _ c.of.result c.in-Err.field-0 c.loop-step.pass c.act.new.p c.loop-step.invariant.taken c.loop-step-test.true c.requires.steps c.of.ensures c.in-Err.ensures.refused

pub loop-step-preserved : goal.loop-step-preserved
loop-step-preserved c =
    let i = c.loop-step.invariant in
    record {
      taken = one_taken c.args.desk.now c.args.steps.now c.loop-step.step-index _ c.of.result c.in-Ok.field-0 c.loop-step.pass c.act.new.p i.taken c.loop-step-test.true c.requires.steps c.of.ensures c.in-Ok.ensures.done;
      calls = c.act.ensures.same.3 ∙ i.calls;
    }
