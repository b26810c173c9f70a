use Rattle.std.proofs.Common.{◌≡◌, ◌∙◌, Some, ap, arith, refl, subst, sym}
use Rattle.std.specs.Prelude.{position}
use Rattle.cf_model.specs.Graphs.{NoneLeftUpTo}
use Rattle.cf_core.specs.declared.stages.Stages.{Stages}
use Rattle.cf_core.proofs.Keeping.TurnLemmas.{no_turn, one_turn_more}
use Rattle.cf_core.proofs.stages.Stages.treat_up_to.Goals as goal

pub loop-m-init : goal.loop-m-init
loop-m-init c = record { same = refl; taken = λ i e. e; turns = no_turn c.args.plan.now.stages c.args.d c.args.self.now; still = λ none. refl; room = (refl, refl); sound = c.requires.sound }

pub loop-m-preserved : goal.loop-m-preserved
loop-m-preserved c =
    let h = c.loop-m.invariant in
    let t = c.turn.ensures in record {
      same = t.same ∙ h.same;
      taken = λ i e. t.taken i (h.taken i e);
      turns = one_turn_more c.args.plan.now.stages c.args.d c.in-Some.m c.args.self.now c.loop-m.self c.turn.new.self h.turns c.in-Some.ensures.within t.turned t.counted;
      still = λ none. (let m = c.in-Some.m in
          let same = h.still none in
          let first : position (λ b. b) c.args.self.now.marks ≡ Some m = ap (λ (s : Stages). position (λ b. b) s.marks) (sym same) ∙ c.in-Some.ensures.some in
          let above = subst (NoneLeftUpTo c.args.d) first none in
          let within = c.in-Some.ensures.within in
          absurd (omega (arith, above, within)));
      room = (t.room.0 ∙ h.room.0, t.room.1 ∙ h.room.1);
      sound = t.sound;
    }
