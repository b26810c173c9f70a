use Rattle.std.proofs.Common.{◌≡◌, ◌≤◌, ◌+◌, ◌-◌}
use Rattle.cf_core.specs.Keeping.Sound.{StayTaken}
use Rattle.cf_core.specs.Keeping.SoundStages.{AreSound, SameRoom, settled_view_of}
use Rattle.cf_core.proofs.stages.Stages.nudge.Given as goal

-- what the stages lead to stays, and each turn so far was counted
abbrev pub invariant-loop-taken : goal.invariant-loop-taken
invariant-loop-taken l = record {
  same : settled_view_of l.plan.stages l.self ≡ settled_view_of l.plan.stages l.initial.self;
  taken : StayTaken l.initial.self.kept.items l.self.kept.items;
  counted : l.self.turns ≡ l.initial.self.turns + l.taken;
  few : l.taken ≤ l.k;
  room : SameRoom l.initial.self l.self;
  sound : AreSound l.plan.stages l.self;
}

abbrev pub decreases-loop-taken : goal.decreases-loop-taken
decreases-loop-taken l = l.k - l.taken
