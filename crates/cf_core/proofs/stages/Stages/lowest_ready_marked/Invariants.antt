use Rattle.std.proofs.Common.{◌≡◌, ◌+◌, ◌-◌, length}
use Rattle.std.specs.Prelude.{position}
use Rattle.cf_forms.specs.Plans.{edges_of}
use Rattle.cf_model.specs.Graphs.{NoneLeftFor}
use Rattle.cf_model.specs.States.{is_ready}
use Rattle.cf_core.specs.Keeping.Sound.{StayTaken}
use Rattle.cf_core.specs.Keeping.Turns.{TurnsBelowReady}
use Rattle.cf_core.specs.Keeping.SoundStages.{AreSound, SameRoom, settled_view_of}
use Rattle.cf_core.proofs.stages.Stages.lowest_ready_marked.Given as goal

-- what the stages lead to stays, which were treated, there are only so many turns in all, and none where none is left
abbrev pub invariant-loop-m : goal.invariant-loop-m
invariant-loop-m l = record {
  same : settled_view_of l.plan.stages l.self ≡ settled_view_of l.plan.stages l.initial.self;
  taken : StayTaken l.initial.self.kept.items l.self.kept.items;
  turns : TurnsBelowReady l.plan.stages l.initial.self l.self;
  still : NoneLeftFor (position is_ready (settled_view_of l.plan.stages l.initial.self)) (position (λ b. b) l.initial.self.marks) → l.self ≡ l.initial.self;
  room : SameRoom l.initial.self l.self;
  sound : AreSound l.plan.stages l.self;
}

abbrev pub decreases-loop-m : goal.decreases-loop-m
decreases-loop-m l = edges_of l.plan.stages + length l.plan.stages - l.self.turns
