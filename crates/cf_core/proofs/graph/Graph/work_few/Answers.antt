use Rattle.std.proofs.Common.{arith}
use Rattle.cf_core.proofs.Keeping.Serving.{run_more}
use Rattle.cf_core.proofs.graph.Graph.work_few.Goals as goal

pub loop-calls-preserved : goal.loop-calls-preserved
loop-calls-preserved g c =
    let h = c.loop-calls.invariant in
    let before = h.counted in
    let turns = c.work_once.ensures.counted.counted in
    record {
      called = run_more g.F.Functions.calls c.args.who c.args.self.now.state c.loop-calls.self.state c.work_once.new.self.state c.args.functions.now c.loop-calls.functions c.work_once.new.functions c.loop-calls.calls c.work_once.result
          c.work_once.ensures.called c.if-is_none.ensures h.called;
      within = omega (arith, c.loop-calls-test.true);
      counted = omega (arith, before, turns);
      few = λ some. c.work_once.ensures.counted.few;
    }

pub returns-clause-counted : goal.returns-clause-counted
returns-clause-counted g c = record {
  counted = c.loop-calls.invariant.counted;
  few = c.loop-calls.invariant.few (omega (arith, c.requires, c.loop-calls-test.false));
}
