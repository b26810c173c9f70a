use Rattle.std.proofs.Common.{◌≡◌, ◌≤◌}
use Rattle.cf_core.specs.Keeping.Sound.{StayTaken}
use Rattle.cf_core.specs.Keeping.SoundStages.{SameRoom, settled_view_of}
use Rattle.cf_core.specs.Keeping.Sweeps.{AreSwept}
use Rattle.cf_core.proofs.graph.lending.go_on.Given as goal

-- the stages so far are treated, and none of them is ready
abbrev pub invariant-loop-m : goal.invariant-loop-m
invariant-loop-m l = record {
  swept : AreSwept l.plan.stages l.m l.m l.stages;
  same : settled_view_of l.plan.stages l.stages ≡ settled_view_of l.plan.stages l.initial.stages;
  taken : StayTaken l.initial.stages.kept.items l.stages.kept.items;
  counted : l.initial.stages.turns ≤ l.stages.turns;
  room : SameRoom l.initial.stages l.stages;
}
