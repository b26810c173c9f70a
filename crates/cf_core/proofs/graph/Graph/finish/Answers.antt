use Rattle.std.proofs.Common.{◌≡◌, ◌+◌, ◌∙◌, ◌==◌, None, ap, false, length-set, refl, sym, true}
use Rattle.std.specs.Prelude.{slice_get, unwrap_or}
use Rattle.std.specs.Option.{option_map_or}
use Rattle.cf_model.specs.States.{outcome_in}
use Rattle.cf_core.specs.Keeping.SoundStages.{settled_view_of}
use Rattle.cf_core.proofs.Keeping.GraphLemmas.{AreClaimed-closed, AreClaimed-stay, claim_there, finishes_late, finishes_now, open_claimed, room_stays, told_outcome}
use Rattle.cf_model.proofs.Stable.{landing-lower}
use Rattle.cf_core.proofs.Keeping.Offering.{landing-composes}
use Rattle.cf_core.proofs.Keeping.Sweeping.{treated_swept}
use Rattle.cf_core.proofs.Keeping.Changes.{rests_alone}
use Rattle.cf_core.proofs.graph.Graph.finish.Goals as goal
use Rattle.cf_core.proofs.graph.Graph.finish.Goals.{After-outcome}

-- the caller's claim is open
has : (c : After-outcome) → option_map_or (λ w. w == c.args.who) (unwrap_or (slice_get c.self.inside.claims.items c.args.i) None) false ≡ true
has c = ap (λ xs. option_map_or (λ w. w == c.args.who) (unwrap_or (slice_get xs c.args.i) None) false) (sym c.deref.ensures.value) ∙ sym c.has_claim.ensures ∙ c.if-not-has_claim.false

told : (c : After-outcome) → outcome_in (settled_view_of c.self.inside.plan.stages c.treat_up_to.new.self) c.args.i ≡ c.outcome.result
told c = told_outcome c.self.inside.plan.stages c.treat_up_to.new.self c.args.i c.treat_up_to.ensures.sound (rw (← c.self.view_is) at c.requires) c.treat_up_to.ensures.treated ∙ sym c.outcome.ensures

pub invariant_of-self-in-Some : goal.invariant_of-self-in-Some
invariant_of-self-in-Some c =
    let s = c.self.inside.stages in
    let t = c.treat_up_to.new.self in
    let claims = c.self.inside.claims.items in
    let h = c.self.invariant in
    record {
      growing = h.growing;
      sound = c.treat_up_to.ensures.sound;
      all_claims = length-set claims c.args.i None ∙ h.all_claims;
      claimed = AreClaimed-closed claims s.kept.items t.kept.items c.args.i h.claimed (λ i ne. c.treat_up_to.ensures.taken i);
      stages_room = room_stays _ _ s t h.stages_room c.treat_up_to.ensures.room;
      claims_room = h.claims_room;
      few_used = h.few_used;
    }

pub landing_of-at-requires-clause-treated : goal.landing_of-at-requires-clause-treated
landing_of-at-requires-clause-treated c =
    treated_swept c.self.inside.plan.stages (c.args.i + 1) c.treat_up_to.new.self c.treat_up_to.ensures.sound c.treat_up_to.ensures.treated

pub land-requires-clause-target : goal.land-requires-clause-target
land-requires-clause-target c j e = landing-lower _ _ _ _ j (sym c.landing_of-at.ensures ∙ e)

pub land-requires-clause-composes : goal.land-requires-clause-composes
land-requires-clause-composes c j e = landing-composes _ _ _ _ j (sym c.landing_of-at.ensures ∙ e)

pub land-requires-clause-claimed : goal.land-requires-clause-claimed
land-requires-clause-claimed c =
    let at = (goal.at.land-requires-clause-claimed c).After-outcome in
    let there = claim_there c.self.inside.claims.items c.args.i c.args.who (has at) in
    open_claimed _ (c.treat_up_to.ensures.taken c.args.i (c.self.invariant.claimed c.args.i c.args.who there)) (sym c.outcome.ensures ∙ c.in-None.is)

pub invariant_of-self-in-None : goal.invariant_of-self-in-None
invariant_of-self-in-None c =
    let s = c.self.inside.stages in
    let t = c.treat_up_to.new.self in
    let claims = c.self.inside.claims.items in
    let h = c.self.invariant in
    record {
      growing = h.growing;
      sound = c.land.ensures.sound;
      all_claims = length-set claims c.args.i None ∙ h.all_claims;
      claimed = AreClaimed-closed claims t.kept.items c.land.new.self.kept.items c.args.i (AreClaimed-stay claims s.kept.items t.kept.items h.claimed c.treat_up_to.ensures.taken) c.land.ensures.taken;
      stages_room = room_stays _ _ t c.land.new.self (room_stays _ _ s t h.stages_room c.treat_up_to.ensures.room) c.land.ensures.room;
      claims_room = h.claims_room;
      few_used = h.few_used;
    }

pub returns-in-Some-clause-told : goal.returns-in-Some-clause-told
returns-in-Some-clause-told c =
    let at = (goal.at.returns-in-Some-clause-told c).After-outcome in
    let seen = settled_view_of c.self.inside.plan.stages c.treat_up_to.new.self in
    rw (← c.self.view_is) (finishes_late _ c.args.who c.args.i c.args.answer c.in-Some.field-0 seen c.treat_up_to.ensures.same (has at) (told at ∙ c.in-Some.is))

pub returns-in-None-clause-told : goal.returns-in-None-clause-told
returns-in-None-clause-told c =
    let at = (goal.at.returns-in-None-clause-told c).After-outcome in
    let plan = c.self.inside.plan.stages in
    rw (← c.self.view_is) (finishes_now _ c.args.who c.args.i c.args.answer _ c.landing_of-at.result (settled_view_of plan c.treat_up_to.new.self) (settled_view_of plan c.land.new.self)
    c.treat_up_to.ensures.same (has at) (told at ∙ c.in-None.is) refl c.landing_of-at.ensures c.land.ensures.landed)

pub returns-then-not-has_claim-clause-alone : goal.returns-then-not-has_claim-clause-alone
returns-then-not-has_claim-clause-alone c = rw (← c.self.view_is) (rests_alone c.args.i c.self.inside.stages c.treat_up_to.new.self c.treat_up_to.ensures.still)

pub returns-in-Some-clause-alone : goal.returns-in-Some-clause-alone
returns-in-Some-clause-alone c = rw (← c.self.view_is) (rests_alone c.args.i c.self.inside.stages c.treat_up_to.new.self c.treat_up_to.ensures.still)
