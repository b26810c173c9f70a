use Rattle.std.proofs.Common.{ap, ◌∙◌, arith}
use Rattle.cf_history.proofs.Walks.{passed_more}
use Rattle.cf_history.proofs.caller.pass_by.Goals as goal

pub loop-i-preserved : goal.loop-i-preserved
loop-i-preserved c =
    passed_more c.args.caller c.args.graph.now.state c.args.rest.now c.loop-i.i _ c.loop-i.graph.state c.answer.new.self.state (omega arith)
    (λ e. c.if-who-caller.false (c.who.ensures ∙ e)) (ap (λ p. p.1) c.answer.ensures.told) c.loop-i.invariant
