use Rattle.cf_history.proofs.Walks.{Walked}
use Rattle.cf_history.proofs.caller.judge_caller.Given as goal

abbrev pub invariant-loop-k : goal.invariant-loop-k
invariant-loop-k l = Walked l.caller l.fn.graph.state l.history l.records l.k l.at l.graph.state
