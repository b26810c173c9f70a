use Rattle.std.proofs.Common.{ap, arith}
use Rattle.cf_history.proofs.Words.{looked_more, looked_unfit}
use Rattle.cf_history.proofs.events.find_unfit.Goals as goal

pub returns-in-Some-clause-found : goal.returns-in-Some-clause-found
returns-in-Some-clause-found c =
    looked_unfit c.args.callers c.args.functions c.args.graph.now.state c.args.events.now c.loop-i.i _ c.loop-i.graph.state c.in-Some.why (omega arith) c.in-Some.ensures c.loop-i.invariant

pub loop-i-preserved : goal.loop-i-preserved
loop-i-preserved c =
    looked_more c.args.callers c.args.functions c.args.graph.now.state c.args.events.now c.loop-i.i _ c.loop-i.graph.state c.answer.new.self.state (omega arith) c.in-None.ensures
    (ap (λ p. p.1) c.answer.ensures.told) c.loop-i.invariant
