use Rattle.std.proofs.Common.{◌≡◌, ◌<◌, ◌+◌, ◌∷◌, ◌∙◌, [], Some, ap, arith, length, length-append, subst, sym}
use Rattle.std.specs.Prelude.{vec_capacity}
use Rattle.cf_model.specs.Graphs.{MovesAlone}
use Rattle.cf_core.specs.Keeping.Changes.{AreWritten, HasPlaces}
use Rattle.cf_core.specs.Keeping.SoundStages.{lowest_marked_in}
use Rattle.cf_core.specs.Keeping.Treatment.{stages_of}
use Rattle.cf_core.proofs.Keeping.Changes.{turn_alone, turn_further, turn_same_rank}
use Rattle.cf_core.proofs.Keeping.Places.{turn_within}
use Rattle.cf_core.proofs.Keeping.Written.{places_not, places_on, written_not, written_on}
use Rattle.cf_core.proofs.stages.Stages.write_marked.Goals as goal
use Rattle.cf_core.proofs.stages.Stages.write_marked.Goals.{After-turn}

lowest : (c : After-turn) → lowest_marked_in c.loop-m.self ≡ Some c.in-Some.m
lowest c = sym c.lowest.ensures ∙ c.in-Some.is

within : (c : After-turn) → c.in-Some.m < length c.args.plan.now.stages
within c =
    let s = c.loop-m.self in
    turn_within c.args.plan.now.stages s.kept.items s.marks s.ready s.links s.steps s.turns c.loop-m.invariant.sound c.in-Some.m (lowest c)

there : (c : After-turn) → c.in-Some.m < length c.loop-m.self.kept.items
there c = let l = within c in omega (arith, l, c.loop-m.invariant.sound.all_kept)

-- the stage that is treated moves alone
alone : (c : After-turn) → MovesAlone c.in-Some.m (stages_of c.loop-m.self.kept.items) (stages_of c.turn.new.self.kept.items)
alone c =
    let kept = c.loop-m.self.kept.items in
    subst (λ new. MovesAlone c.in-Some.m (stages_of kept) (stages_of new)) (sym c.turn.ensures.turned) (turn_alone c.args.plan.now.stages kept c.in-Some.m (there c))

places : (c : After-turn) → HasPlaces (length c.args.plan.now.stages) (Some c.in-Some.m) (length c.loop-m.news.items) (vec_capacity c.loop-m.news)
places c = subst (λ left. HasPlaces (length c.args.plan.now.stages) left (length c.loop-m.news.items) (vec_capacity c.loop-m.news)) (lowest c) c.loop-m.invariant.places

pub push_reserved-requires : goal.push_reserved-requires
push_reserved-requires c =
    let at = (goal.at.push_reserved-requires c).After-turn in
    let room = places at in
    let l = within at in
    omega (arith, room, l)

pub loop-m-preserved : goal.loop-m-preserved
loop-m-preserved c =
    let at = (goal.at.loop-m-preserved c).After-turn in
    let h = c.loop-m.invariant in
    let t = c.turn.ensures in
    let m = c.in-Some.m in
    let mid = stages_of c.loop-m.self.kept.items in
    let new = stages_of c.turn.new.self.kept.items in
    let left = lowest_marked_in c.turn.new.self in
    let more = c.push_reserved.ensures.items in
    let count = ap length more ∙ length-append c.loop-m.news.items (m ∷ []) in
    let on = places_on (length c.args.plan.now.stages) m (length c.loop-m.news.items) (vec_capacity c.loop-m.news) left (within at) (places at) t.above in
    record {
      same = t.same ∙ h.same;
      taken = λ i e. t.taken i (h.taken i e);
      told = λ old before is. subst (AreWritten old new left before) (sym more)
          (written_on old mid new m left before c.loop-m.news.items (subst (λ l. AreWritten old mid l before c.loop-m.news.items) (lowest at) (h.told old before is)) (alone at) (turn_further c.args.plan.now.stages c.loop-m.self.kept.items c.turn.new.self.kept.items m c.turn.result (there at) t.turned t.told c.in_default-turn.not-Same) t.above);
      places = subst (λ n. HasPlaces (length c.args.plan.now.stages) left n (vec_capacity c.push_reserved.new.self)) (sym count)
          (subst (HasPlaces (length c.args.plan.now.stages) left (length c.loop-m.news.items + 1)) (sym c.push_reserved.ensures.capacity) on);
      capacity = c.push_reserved.ensures.capacity ∙ h.capacity;
      counted = omega (arith, h.counted, t.counted);
      room = (t.room.0 ∙ h.room.0, t.room.1 ∙ h.room.1);
      sound = t.sound;
    }

pub loop-m-preserved-in-Same : goal.loop-m-preserved-in-Same
loop-m-preserved-in-Same c =
    let at = (goal.at.loop-m-preserved-in-Same c).After-turn in
    let h = c.loop-m.invariant in
    let t = c.turn.ensures in
    let m = c.in-Some.m in
    let mid = stages_of c.loop-m.self.kept.items in
    let new = stages_of c.turn.new.self.kept.items in
    let left = lowest_marked_in c.turn.new.self in
    record {
      same = t.same ∙ h.same;
      taken = λ i e. t.taken i (h.taken i e);
      told = λ old before is. written_not old mid new m left before c.loop-m.news.items (subst (λ l. AreWritten old mid l before c.loop-m.news.items) (lowest at) (h.told old before is)) (alone at) (turn_same_rank c.args.plan.now.stages c.loop-m.self.kept.items c.turn.new.self.kept.items m c.turn.result (there at) t.turned t.told c.in-Same.is) t.above;
      places = places_not (length c.args.plan.now.stages) m (length c.loop-m.news.items) (vec_capacity c.loop-m.news) left (within at) (places at) t.above;
      capacity = h.capacity;
      counted = omega (arith, h.counted, t.counted);
      room = (t.room.0 ∙ h.room.0, t.room.1 ∙ h.room.1);
      sound = t.sound;
    }
