use Rattle.std.proofs.Common.{None, ◌<◌, ◌≡◌, ◌+◌, ◌∙◌, Some, ap, arith, length, length-set, refl, subst, sym}
use Rattle.std.specs.Prelude.{position, slice_get}
use Rattle.cf_model.specs.declared.stage.Stage.TheVariants.{Ready}
use Rattle.cf_model.specs.Graphs.{WritesNews}
use Rattle.cf_core.specs.Keeping.Sound.{AreTreated}
use Rattle.cf_core.specs.Keeping.SoundStages.{settled_view_of}
use Rattle.cf_core.proofs.Keeping.GraphLemmas.{AreClaimed-set, claims_not, claims_now, room_stays, told_stage}
use Rattle.cf_core.proofs.Keeping.Lowest.{none_marked}
use Rattle.cf_core.proofs.Keeping.Written.{claimed_news, same_news}
use Rattle.cf_core.proofs.graph.Graph.claim_telling.Goals.{After-stage}
use Rattle.cf_core.proofs.graph.Graph.claim_telling.Goals as goal

-- no stage waits for treatment
treated : (c : After-stage) → AreTreated (c.args.i + 1) c.self.inside.stages.marks
treated c =
    let s = c.self.inside.stages in
    let none : position (λ b. b) s.marks ≡ None = rw (← c.self.view_is) at c.requires.worked_out in
    let there = c.requires.stage in
    let all = c.self.invariant.sound.all_marks in
    let within : c.args.i < length c.self.inside.plan.stages = rw (← c.self.view_is) at there in
    none_marked s.marks (c.args.i + 1) none (omega (arith, within, all))

told : (c : After-stage) → slice_get (settled_view_of c.self.inside.plan.stages c.self.inside.stages) c.args.i ≡ Some c.stage.result
told c = told_stage c.self.inside.plan.stages c.self.inside.stages c.args.i c.self.invariant.sound (rw (← c.self.view_is) at c.requires.stage) (treated c) ∙ ap (λ x. Some x) (sym c.stage.ensures)

pub claim-requires-clause-treated : goal.claim-requires-clause-treated
claim-requires-clause-treated c = treated (goal.at.claim-requires-clause-treated c).After-stage

pub invariant_of-self : goal.invariant_of-self
invariant_of-self c =
    let h = c.self.invariant in
    let s = c.self.inside.stages in
    record {
      growing = h.growing;
      sound = c.claim.ensures.sound;
      all_claims = length-set c.self.inside.claims.items c.args.i (Some c.args.who) ∙ h.all_claims;
      claimed = AreClaimed-set c.self.inside.claims.items s.kept.items c.claim.new.self.kept.items c.args.i c.args.who h.claimed c.claim.ensures.taken c.claim.ensures.here;
      stages_room = room_stays _ _ s c.claim.new.self h.stages_room c.claim.ensures.room;
      claims_room = h.claims_room;
      few_used = h.few_used;
    }

pub returns-in-Ready-clause-told : goal.returns-in-Ready-clause-told
returns-in-Ready-clause-told c =
    let at = (goal.at.returns-in-Ready-clause-told c).After-stage in
    let plan = c.self.inside.plan.stages in
    let seen = settled_view_of plan c.self.inside.stages in
    let is : slice_get seen c.args.i ≡ Some (Ready c.in-Ready.args) = told at ∙ ap (λ x. Some x) c.in-Ready.is in
    rw (← c.self.view_is) (claims_now _ c.args.who c.args.i c.in-Ready.args seen (settled_view_of plan c.claim.new.self) refl is c.claim.ensures.claimed)

pub returns-in-Ready-clause-news : goal.returns-in-Ready-clause-news
returns-in-Ready-clause-news c =
    let at = (goal.at.returns-in-Ready-clause-news c).After-stage in
    let plan = c.self.inside.plan.stages in
    let seen = settled_view_of plan c.self.inside.stages in
    let is : slice_get seen c.args.i ≡ Some (Ready c.in-Ready.args) = told at ∙ ap (λ x. Some x) c.in-Ready.is in
    let new = settled_view_of plan c.claim.new.self in
    let row = c.args.news.now.items in
    let news : WritesNews seen new row c.push_reserved.new.self.items =
    subst (WritesNews seen new row) (sym c.push_reserved.ensures.items) (claimed_news seen new c.args.i c.in-Ready.args row is c.claim.ensures.claimed) in
    rw (← c.self.view_is) news

pub returns-in_default-clause-told : goal.returns-in_default-clause-told
returns-in_default-clause-told c =
    let at = (goal.at.returns-in_default-clause-told c).After-stage in
    let plan = c.self.inside.plan.stages in
    let seen = settled_view_of plan c.self.inside.stages in
    rw (← c.self.view_is) (claims_not _ c.args.who c.args.i c.stage.result c.refusal.result seen refl (told at) (c.refusal.ensures _ c.args.who c.args.i))

pub returns-in_default-clause-news : goal.returns-in_default-clause-news
returns-in_default-clause-news c = same_news _ c.args.news.now.items
