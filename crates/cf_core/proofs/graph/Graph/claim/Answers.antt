use Rattle.std.proofs.Common.{◌≡◌, ◌∙◌, Some, ap, refl, sym, length-set}
use Rattle.std.specs.Prelude.{is_some, slice_get}
use Rattle.cf_model.specs.declared.stage.Stage.TheVariants.{Ready, Settled}
use Rattle.cf_model.specs.declared.replies.Claimed.TheVariants.{Settled as IsSettled}
use Rattle.cf_model.specs.States.{outcome_of}
use Rattle.cf_core.specs.Keeping.Sound.{kept_at}
use Rattle.cf_core.specs.Keeping.SoundStages.{settled_view_of}
use Rattle.cf_core.proofs.Keeping.GraphLemmas.{AreClaimed-set, AreClaimed-stay, claims_not, claims_now, room_stays, told_stage}
use Rattle.cf_core.proofs.Keeping.Settled.{some_there, told_settled_stage}
use Rattle.cf_core.proofs.Keeping.Changes.{rests_alone}
use Rattle.cf_core.proofs.graph.Graph.claim.Goals as goal

pub invariant_of-self : goal.invariant_of-self
invariant_of-self c =
    let h = c.self.invariant in
    let t = c.treat_up_to.new.self in
    record {
      growing = h.growing;
      sound = c.claim.ensures.sound;
      all_claims = length-set c.self.inside.claims.items c.args.i (Some c.args.who) ∙ h.all_claims;
      claimed = AreClaimed-set c.self.inside.claims.items t.kept.items c.claim.new.self.kept.items c.args.i c.args.who
          (AreClaimed-stay c.self.inside.claims.items c.self.inside.stages.kept.items t.kept.items h.claimed c.treat_up_to.ensures.taken) c.claim.ensures.taken c.claim.ensures.here;
      stages_room = room_stays _ _ t c.claim.new.self (room_stays _ _ c.self.inside.stages t h.stages_room c.treat_up_to.ensures.room) c.claim.ensures.room;
      claims_room = h.claims_room;
      few_used = h.few_used;
    }

pub returns-then-is_some-clause-told : goal.returns-then-is_some-clause-told
returns-then-is_some-clause-told c =
    let plan = c.self.inside.plan.stages in
    let s = c.self.inside.stages in
    let old = some_there (outcome_of ((kept_at s.kept.items c.args.i).stage)) (ap is_some (sym c.outcome.ensures) ∙ sym c.is_some.ensures ∙ c.if-is_some.true) in
    rw (← c.self.view_is) (claims_not _ c.args.who c.args.i (Settled old.0) IsSettled (settled_view_of plan s) refl (told_settled_stage plan s c.args.i old.0 old.1) refl)

pub returns-in-Ready-clause-told : goal.returns-in-Ready-clause-told
returns-in-Ready-clause-told c =
    let plan = c.self.inside.plan.stages in
    let t = c.treat_up_to.new.self in
    let told = told_stage plan t c.args.i c.treat_up_to.ensures.sound (rw (← c.self.view_is) at c.requires) c.treat_up_to.ensures.treated in
    let is : slice_get (settled_view_of plan t) c.args.i ≡ Some (Ready c.in-Ready.args) = told ∙ ap (λ x. Some x) (sym c.stage.ensures ∙ c.in-Ready.is) in
    rw (← c.self.view_is) (claims_now _ c.args.who c.args.i c.in-Ready.args (settled_view_of plan t) (settled_view_of plan c.claim.new.self) c.treat_up_to.ensures.same is c.claim.ensures.claimed)

pub returns-in_default-clause-told : goal.returns-in_default-clause-told
returns-in_default-clause-told c =
    let plan = c.self.inside.plan.stages in
    let t = c.treat_up_to.new.self in
    let told = told_stage plan t c.args.i c.treat_up_to.ensures.sound (rw (← c.self.view_is) at c.requires) c.treat_up_to.ensures.treated ∙ ap (λ x. Some x) (sym c.stage.ensures) in
    rw (← c.self.view_is) (claims_not _ c.args.who c.args.i c.stage.result c.refusal.result (settled_view_of plan t) c.treat_up_to.ensures.same told (c.refusal.ensures _ c.args.who c.args.i))

pub returns-in_default-clause-alone : goal.returns-in_default-clause-alone
returns-in_default-clause-alone c = rw (← c.self.view_is) (rests_alone c.args.i c.self.inside.stages c.treat_up_to.new.self c.treat_up_to.ensures.still)
