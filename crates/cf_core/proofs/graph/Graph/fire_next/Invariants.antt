use Rattle.std.proofs.Common.{◌≡◌, ◌+◌, ◌-◌, ◌≤◌, drop, take}
use Rattle.cf_model.specs.Events.{firing}
use Rattle.cf_model.specs.Graphs.{RestsForLimits}
use Rattle.cf_core.proofs.graph.Graph.fire_next.Given as goal

-- the limits that are left do what all do from the start; the plan and the number of used limits stay, turns are only added, and none that isn't needed by the first limit
abbrev pub invariant-loop-k : goal.invariant-loop-k
invariant-loop-k l = record {
  rest : firing l.fired l.self.state (take (l.count - l.k) (drop (l.initial.self.state.used + l.k) l.initial.self.state.plan.limits)) ≡ firing 0 l.initial.self.state (take l.count (drop l.initial.self.state.used l.initial.self.state.plan.limits));
  plan : l.self.state.plan ≡ l.initial.self.state.plan;
  used : l.self.state.used ≡ l.initial.self.state.used;
  counted : l.initial.self.turns ≤ l.self.turns;
  unfired : l.k ≡ 0 → l.self ≡ l.initial.self;
  rests : RestsForLimits (take l.k (drop l.initial.self.state.used l.initial.self.state.plan.limits)) l.initial.self l.self;
  few : l.fired ≤ l.k;
}
