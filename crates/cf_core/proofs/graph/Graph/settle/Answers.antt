use Rattle.std.proofs.Common.{◌≡◌, ◌∙◌, None, Some, ap, refl, sym}
use Rattle.std.specs.Prelude.{is_some}
use Rattle.cf_model.specs.States.{outcome_in, outcome_of}
use Rattle.cf_core.specs.Keeping.Sound.{kept_at}
use Rattle.cf_core.specs.Keeping.SoundStages.{settled_view_of}
use Rattle.cf_core.proofs.Keeping.GraphLemmas.{AreClaimed-stay, room_stays, settles_not, settles_now, told_outcome}
use Rattle.cf_core.proofs.Keeping.Settled.{some_there, told_settled}
use Rattle.cf_core.proofs.graph.Graph.settle.Goals as goal

pub returns-then-is_some-clause-told : goal.returns-then-is_some-clause-told
returns-then-is_some-clause-told c =
    let plan = c.self.inside.plan.stages in
    let s = c.self.inside.stages in
    let old = some_there (outcome_of ((kept_at s.kept.items c.args.i).stage)) (ap is_some (sym c.outcome.ensures) ∙ sym c.is_some.ensures ∙ c.if-is_some.true) in
    rw (← c.self.view_is) (settles_not _ c.args.i c.args.o old.0 (settled_view_of plan s) refl (told_settled plan s c.args.i old.0 old.1))

pub invariant_of-self-in-None : goal.invariant_of-self-in-None
invariant_of-self-in-None c =
    let s = c.self.inside.stages in
    let t = c.treat_up_to.new.self in
    let u = c.settle.new.self in
    let claims = c.self.inside.claims.items in
    let h = c.self.invariant in
    record {
      growing = h.growing;
      sound = c.settle.ensures.sound;
      all_claims = h.all_claims;
      claimed = AreClaimed-stay claims t.kept.items u.kept.items (AreClaimed-stay claims s.kept.items t.kept.items h.claimed c.treat_up_to.ensures.taken) c.settle.ensures.taken;
      stages_room = room_stays _ _ t u (room_stays _ _ s t h.stages_room c.treat_up_to.ensures.room) c.settle.ensures.room;
      claims_room = h.claims_room;
      few_used = h.few_used;
    }

pub returns-in-Some-clause-told : goal.returns-in-Some-clause-told
returns-in-Some-clause-told c =
    let plan = c.self.inside.plan.stages in
    let t = c.treat_up_to.new.self in
    let told = told_outcome plan t c.args.i c.treat_up_to.ensures.sound (rw (← c.self.view_is) at c.requires) c.treat_up_to.ensures.treated in
    let is : outcome_in (settled_view_of plan t) c.args.i ≡ Some c.in-Some.field-0 = told ∙ sym c.outcome-2.ensures ∙ c.in-Some.is in
    rw (← c.self.view_is) (settles_not _ c.args.i c.args.o c.in-Some.field-0 (settled_view_of plan t) c.treat_up_to.ensures.same is)

pub returns-in-None-clause-told : goal.returns-in-None-clause-told
returns-in-None-clause-told c =
    let plan = c.self.inside.plan.stages in
    let t = c.treat_up_to.new.self in
    let told = told_outcome plan t c.args.i c.treat_up_to.ensures.sound (rw (← c.self.view_is) at c.requires) c.treat_up_to.ensures.treated in
    let is : outcome_in (settled_view_of plan t) c.args.i ≡ None = told ∙ sym c.outcome-2.ensures ∙ c.in-None.is in
    rw (← c.self.view_is) (settles_now _ c.args.i c.args.o (settled_view_of plan t) (settled_view_of plan c.settle.new.self) c.treat_up_to.ensures.same is c.settle.ensures.after)
