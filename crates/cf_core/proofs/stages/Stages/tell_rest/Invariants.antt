use Rattle.std.proofs.Common.{◌≡◌, ◌+◌, ◌-◌, ◌≤◌, List, length}
use Rattle.cf_forms.specs.Plans.{edges_of}
use Rattle.cf_model.specs.declared.stage.Stage.{Stage}
use Rattle.cf_core.specs.Keeping.Changes.{HaveMoved}
use Rattle.cf_core.specs.Keeping.Sound.{StayTaken}
use Rattle.cf_core.specs.Keeping.SoundStages.{AreSound, SameRoom, settled_view_of}
use Rattle.cf_core.specs.Keeping.Treatment.{stages_of}
use Rattle.cf_core.proofs.stages.Stages.tell_rest.Given as goal

-- what the stages lead to stays, and the flags of those that have moved are set
abbrev pub invariant-loop-m : goal.invariant-loop-m
invariant-loop-m l = record {
  same : settled_view_of l.plan.stages l.self ≡ settled_view_of l.plan.stages l.initial.self;
  taken : StayTaken l.initial.self.kept.items l.self.kept.items;
  told : (old : List Stage) → HaveMoved old (stages_of l.initial.self.kept.items) l.initial.changed → HaveMoved old (stages_of l.self.kept.items) l.changed;
  flags : length l.changed ≡ length l.initial.changed;
  counted : l.initial.self.turns ≤ l.self.turns;
  room : SameRoom l.initial.self l.self;
  sound : AreSound l.plan.stages l.self;
}

abbrev pub decreases-loop-m : goal.decreases-loop-m
decreases-loop-m l = edges_of l.plan.stages + length l.plan.stages - l.self.turns
