use Rattle.std.proofs.Common.{◌≡◌, ◌+◌, ◌-◌, ◌≤◌, List, None, drop, length, take}
use Rattle.cf_model.specs.declared.stage.Stage.{Stage}
use Rattle.cf_model.specs.Events.{firing}
use Rattle.cf_core.specs.Keeping.Changes.{HaveMoved}
use Rattle.cf_core.proofs.graph.Graph.fire_telling.Given as goal

-- the limits that are left do what all do from the start; the plan and the number of used limits stay, no turn is left, and the flags of the stages that have moved are set
abbrev pub invariant-loop-k : goal.invariant-loop-k
invariant-loop-k l = record {
  rest : firing l.fired l.self.state (take (l.count - l.k) (drop (l.initial.self.state.used + l.k) l.initial.self.state.plan.limits)) ≡ firing 0 l.initial.self.state (take l.count (drop l.initial.self.state.used l.initial.self.state.plan.limits));
  plan : l.self.state.plan ≡ l.initial.self.state.plan;
  used : l.self.state.used ≡ l.initial.self.state.used;
  counted : l.initial.self.turns ≤ l.self.turns;
  worked_out : l.self.left ≡ None;
  kept : l.self.kept ≡ l.self.state.stages;
  moved : (old : List Stage) → HaveMoved old l.initial.self.kept l.initial.changed → HaveMoved old l.self.kept l.changed;
  flags : length l.changed ≡ length l.initial.changed;
  few : l.fired ≤ l.k;
}
