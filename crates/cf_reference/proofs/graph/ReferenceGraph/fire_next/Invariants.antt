use Rattle.std.proofs.Common.{◌≡◌, ◌+◌, ◌-◌, ◌≤◌, drop, take}
use Rattle.cf_model.specs.Events.{firing}
use Rattle.cf_reference.specs.References.{next_limits}
use Rattle.cf_reference.proofs.graph.ReferenceGraph.fire_next.Given as goal

-- the limits that are left do what all do from the start; the plan and the number of used limits stay
abbrev pub invariant-loop-k : goal.invariant-loop-k
invariant-loop-k l = record {
  rest : firing l.fired l.self (take (l.count - l.k) (drop (l.initial.self.used + l.k) l.initial.self.plan.limits)) ≡ firing 0 l.initial.self (next_limits l.initial.self l.count);
  plan : l.self.plan ≡ l.initial.self.plan;
  used : l.self.used ≡ l.initial.self.used;
  few : l.fired ≤ l.k;
}
