use Rattle.std.proofs.Common.{◌<◌, ◌∙◌, ap, arith, length, length-set, subst, sym, true}
use Rattle.cf_model.specs.Graphs.{MovesAlone}
use Rattle.cf_core.specs.Keeping.Changes.{HaveMoved}
use Rattle.cf_core.specs.Keeping.Treatment.{stages_of}
use Rattle.cf_core.proofs.Keeping.Changes.{moved_not, moved_on, turn_alone, turn_further, turn_same_rank}
use Rattle.cf_core.proofs.Keeping.Places.{turn_within}
use Rattle.cf_core.proofs.stages.Stages.tell_rest.Goals as goal
use Rattle.cf_core.proofs.stages.Stages.tell_rest.Goals.{After-turn}

within : (c : After-turn) → c.in-Some.m < length c.args.plan.now.stages
within c =
    let s = c.loop-m.self in
    turn_within c.args.plan.now.stages s.kept.items s.marks s.ready s.links s.steps s.turns c.loop-m.invariant.sound c.in-Some.m (sym c.lowest.ensures ∙ c.in-Some.is)

there : (c : After-turn) → c.in-Some.m < length c.loop-m.self.kept.items
there c = let l = within c in omega (arith, l, c.loop-m.invariant.sound.all_kept)

-- the stage that is treated moves alone
alone : (c : After-turn) → MovesAlone c.in-Some.m (stages_of c.loop-m.self.kept.items) (stages_of c.turn.new.self.kept.items)
alone c =
    let kept = c.loop-m.self.kept.items in
    subst (λ new. MovesAlone c.in-Some.m (stages_of kept) (stages_of new)) (sym c.turn.ensures.turned) (turn_alone c.args.plan.now.stages kept c.in-Some.m (there c))

pub loop-m-preserved : goal.loop-m-preserved
loop-m-preserved c =
    let at = (goal.at.loop-m-preserved c).After-turn in
    let h = c.loop-m.invariant in
    let t = c.turn.ensures in
    let mid = stages_of c.loop-m.self.kept.items in
    let new = stages_of c.turn.new.self.kept.items in
    let flag : c.in-Some.m < length c.loop-m.changed = (let l = within at in omega (arith, l, c.requires.flags, h.flags)) in
    record {
      same = t.same ∙ h.same;
      taken = λ i e. t.taken i (h.taken i e);
      told = λ old moved. subst (HaveMoved old new) (sym c.insert.ensures)
          (moved_on old mid new c.loop-m.changed c.in-Some.m flag (h.told old moved) (alone at) (turn_further c.args.plan.now.stages c.loop-m.self.kept.items c.turn.new.self.kept.items c.in-Some.m c.turn.result (there at) t.turned t.told c.in_default-turn.not-Same));
      flags = ap length c.insert.ensures ∙ length-set c.loop-m.changed c.in-Some.m true ∙ h.flags;
      counted = omega (arith, h.counted, t.counted);
      room = (t.room.0 ∙ h.room.0, t.room.1 ∙ h.room.1);
      sound = t.sound;
    }

pub loop-m-preserved-in-Same : goal.loop-m-preserved-in-Same
loop-m-preserved-in-Same c =
    let at = (goal.at.loop-m-preserved-in-Same c).After-turn in
    let h = c.loop-m.invariant in
    let t = c.turn.ensures in
    record {
      same = t.same ∙ h.same;
      taken = λ i e. t.taken i (h.taken i e);
      told = λ old moved. moved_not old _ _ c.loop-m.changed c.in-Some.m (h.told old moved) (alone at) (turn_same_rank c.args.plan.now.stages c.loop-m.self.kept.items c.turn.new.self.kept.items c.in-Some.m c.turn.result (there at) t.turned t.told c.in-Same.is);
      flags = h.flags;
      counted = omega (arith, h.counted, t.counted);
      room = (t.room.0 ∙ h.room.0, t.room.1 ∙ h.room.1);
      sound = t.sound;
    }
