use Rattle.cf_history.proofs.Walks.{PassedBy}
use Rattle.cf_history.proofs.caller.pass_by.Given as goal

abbrev pub invariant-loop-i : goal.invariant-loop-i
invariant-loop-i l = PassedBy l.caller l.fn.graph.state l.rest l.i l.graph.state
