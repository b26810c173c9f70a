use Rattle.std.proofs.Common.{◌<◌, ◌≤◌, ◌-◌}
use Rattle.cf_model.specs.Calling.{Runs}
use Rattle.cf_model.specs.Graphs.{most_turns}
use Rattle.cf_core.proofs.graph.Graph.work_few.Given as goal

abbrev pub invariant-loop-calls : goal.invariant-loop-calls
invariant-loop-calls g l = record {
  called : Runs g.F.Functions.calls l.who l.initial.self.state l.initial.functions l.calls l.self.state l.functions;
  within : l.calls ≤ l.few;
  counted : l.initial.self.turns ≤ l.self.turns;
  few : 0 < l.calls → l.self.turns ≤ most_turns l.self.state.plan.stages;
}

abbrev pub decreases-loop-calls : goal.decreases-loop-calls
decreases-loop-calls g l = l.few - l.calls
