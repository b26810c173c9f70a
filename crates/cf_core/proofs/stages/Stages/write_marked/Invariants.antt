use Rattle.std.proofs.Common.{◌≡◌, ◌+◌, ◌-◌, ◌≤◌, length}
use Rattle.std.specs.Prelude.{vec_capacity}
use Rattle.cf_forms.specs.Plans.{edges_of}
use Rattle.cf_core.specs.Keeping.Changes.{HasPlaces, WriteOn}
use Rattle.cf_core.specs.Keeping.Sound.{StayTaken}
use Rattle.cf_core.specs.Keeping.SoundStages.{AreSound, SameRoom, lowest_marked_in, settled_view_of}
use Rattle.cf_core.specs.Keeping.Treatment.{stages_of}
use Rattle.cf_core.proofs.stages.Stages.write_marked.Given as goal

-- what the stages lead to stays, and those that have moved are written
abbrev pub invariant-loop-m : goal.invariant-loop-m
invariant-loop-m l = record {
  same : settled_view_of l.plan.stages l.self ≡ settled_view_of l.plan.stages l.initial.self;
  taken : StayTaken l.initial.self.kept.items l.self.kept.items;
  told : WriteOn (stages_of l.initial.self.kept.items) (lowest_marked_in l.initial.self) l.initial.news.items (stages_of l.self.kept.items) (lowest_marked_in l.self) l.news.items;
  places : HasPlaces (length l.plan.stages) (lowest_marked_in l.self) (length l.news.items) (vec_capacity l.news);
  capacity : vec_capacity l.news ≡ vec_capacity l.initial.news;
  counted : l.initial.self.turns ≤ l.self.turns;
  room : SameRoom l.initial.self l.self;
  sound : AreSound l.plan.stages l.self;
}

abbrev pub decreases-loop-m : goal.decreases-loop-m
decreases-loop-m l = edges_of l.plan.stages + length l.plan.stages - l.self.turns
