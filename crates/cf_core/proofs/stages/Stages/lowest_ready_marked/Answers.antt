use Rattle.std.proofs.Common.{◌<◌, ◌∙◌, Some, ap, arith, length, refl, subst, sym}
use Rattle.std.specs.Prelude.{position}
use Rattle.cf_model.specs.States.{is_ready}
use Rattle.std.proofs.lemmas.List.{length-map}
use Rattle.cf_model.specs.Graphs.{NoneLeftFor}
use Rattle.cf_core.specs.declared.stages.Stages.{Stages}
use Rattle.cf_core.specs.Keeping.Sound.{AreTreated}
use Rattle.cf_core.specs.Keeping.SoundStages.{settled_view_of}
use Rattle.cf_core.proofs.Keeping.Lowest.{lowest_ready_is}
use Rattle.cf_core.proofs.Keeping.Places.{first_put, lowest_below, lowest_within, treated_out}
use Rattle.cf_core.proofs.Keeping.Resting.{none_below_ready}
use Rattle.cf_core.proofs.Keeping.TurnLemmas.{below_ready, no_turn_below, one_turn_more_below}
use Rattle.cf_core.proofs.stages.Stages.lowest_ready_marked.Goals as goal

pub returns-clause-told : goal.returns-clause-told
returns-clause-told c =
    let s = c.loop-m.self in
    let plan = c.args.plan.now.stages in
    let h = c.loop-m.invariant in
    c.lowest.ensures
    ∙ sym (lowest_ready_is plan s.kept.items s.marks s.ready s.links s.steps s.turns h.sound (position (λ b. b) s.ready) refl c.in_default.ensures.none)
    ∙ ap (position is_ready) h.same

pub returns-in-Ready-clause-told : goal.returns-in-Ready-clause-told
returns-in-Ready-clause-told c =
    let s = c.loop-m.self in
    let t = c.turn.new.self in
    let m = c.in-Some.m in
    let plan = c.args.plan.now.stages in
    let h = c.loop-m.invariant in
    let lowest = c.in-Some.ensures.some in
    let all = ap length h.sound.ready_are ∙ length-map s.kept.items (λ k. is_ready k.stage) in
    let within : m < length s.ready = (let l = lowest_within s.marks m lowest in omega (arith, l, all, h.sound.all_marks, h.sound.all_kept)) in
    let first = ap (position (λ b. b)) (c.turn.ensures.ready c.in-Ready.is) ∙ first_put s.ready m within (λ i b. c.in-Some.ensures.below i (omega (arith, b))) in
    let unmarked = subst (AreTreated m) (sym (c.turn.ensures.marks c.in-Ready.is)) (treated_out s.marks m (lowest_below s.marks m lowest)) in
    sym (lowest_ready_is plan t.kept.items t.marks t.ready t.links t.steps t.turns c.turn.ensures.sound (Some m) first unmarked)
    ∙ ap (position is_ready) (c.turn.ensures.same ∙ h.same)

pub returns-in-Ready-clause-turns : goal.returns-in-Ready-clause-turns
returns-in-Ready-clause-turns c =
    let h = c.loop-m.invariant in
    let below = below_ready c.loop-m.self.kept.items c.loop-m.self.ready c.in-Some.m h.sound.ready_are c.in-Some.ensures.below in
    one_turn_more_below c.args.plan.now.stages c.in-Some.m c.args.self.now c.loop-m.self c.turn.new.self h.turns below c.turn.ensures.turned c.turn.ensures.counted

pub returns-clause-still : goal.returns-clause-still
returns-clause-still c none =
    c.loop-m.invariant.still (subst (λ x. NoneLeftFor x (position (λ b. b) c.args.self.now.marks)) (returns-clause-told c) none)

pub returns-in-Ready-clause-still : goal.returns-in-Ready-clause-still
returns-in-Ready-clause-still c none =
    let plan = c.args.plan.now.stages in
    let h = c.loop-m.invariant in
    let before = subst (λ x. NoneLeftFor x (position (λ b. b) c.args.self.now.marks)) (returns-in-Ready-clause-told c) none in
    let now = subst (λ (s : Stages). NoneLeftFor (position is_ready (settled_view_of plan s)) (position (λ b. b) s.marks)) (sym (h.still before)) before in
    absurd (none_below_ready plan c.loop-m.self c.in-Some.m h.sound c.in-Some.ensures.some c.in-Some.ensures.below now)

pub loop-m-init : goal.loop-m-init
loop-m-init c = record { same = refl; taken = λ i e. e; turns = no_turn_below c.args.plan.now.stages c.args.self.now; still = λ none. refl; room = (refl, refl); sound = c.requires.sound }

pub loop-m-preserved : goal.loop-m-preserved
loop-m-preserved c =
    let h = c.loop-m.invariant in
    let t = c.turn.ensures in
    let below = below_ready c.loop-m.self.kept.items c.loop-m.self.ready c.in-Some.m h.sound.ready_are c.in-Some.ensures.below in record {
      same = t.same ∙ h.same;
      taken = λ i e. t.taken i (h.taken i e);
      turns = one_turn_more_below c.args.plan.now.stages c.in-Some.m c.args.self.now c.loop-m.self c.turn.new.self h.turns below t.turned t.counted;
      still = λ none. (let plan = c.args.plan.now.stages in
          let now = subst (λ (s : Stages). NoneLeftFor (position is_ready (settled_view_of plan s)) (position (λ b. b) s.marks)) (sym (h.still none)) none in
          absurd (none_below_ready plan c.loop-m.self c.in-Some.m h.sound c.in-Some.ensures.some c.in-Some.ensures.below now));
      room = (t.room.0 ∙ h.room.0, t.room.1 ∙ h.room.1);
      sound = t.sound;
    }
