use Rattle.std.proofs.Common.{◌≡◌}
use Rattle.cf_history.specs.Histories.{AreOutcomesTo}
use Rattle.cf_history.proofs.outcomes.first_other.Given as goal

abbrev pub invariant-loop-i : goal.invariant-loop-i
invariant-loop-i l = record {
  same : l.graph.state ≡ l.fn.graph.state;
  before : AreOutcomesTo l.fn.graph.state l.outcomes l.i;
}
