use Rattle.cf_history.proofs.Words.{Looked}
use Rattle.cf_history.proofs.events.find_unfit.Given as goal

abbrev pub invariant-loop-i : goal.invariant-loop-i
invariant-loop-i l = Looked l.callers l.functions l.fn.graph.state l.events l.i l.graph.state
