use Rattle.std.proofs.Common.{◌≡◌, ◌<◌, ◌+◌, ◌≤◌, ◌∷◌, ◌∙◌, ◌==◌, [], None, Some, ap, arith, false, length, length-append, length-set, refl, subst, sym, true}
use Rattle.std.specs.Prelude.{slice_get, unwrap_or, vec_capacity}
use Rattle.std.specs.Option.{option_map_or}
use Rattle.cf_model.specs.Graphs.{WritesNews}
use Rattle.cf_model.specs.States.{outcome_in}
use Rattle.cf_model.proofs.Stable.{landing-lower}
use Rattle.cf_core.specs.Keeping.Changes.{AreWritten, HasPlaces}
use Rattle.cf_core.specs.Keeping.Sound.{AreTreated}
use Rattle.cf_core.specs.Keeping.SoundStages.{lowest_marked_in, settled_view_of}
use Rattle.cf_core.specs.Keeping.Treatment.{stages_of}
use Rattle.cf_core.proofs.Keeping.Changes.{kept_all}
use Rattle.cf_core.proofs.Keeping.GraphLemmas.{AreClaimed-closed, AreClaimed-stay, claim_there, finishes_late, finishes_now, open_claimed, room_stays, told_outcome}
use Rattle.cf_core.proofs.Keeping.Lowest.{length-settled_view, none_marked}
use Rattle.cf_core.proofs.Keeping.Offering.{landing-composes}
use Rattle.cf_core.proofs.Keeping.Sweeping.{treated_swept}
use Rattle.cf_core.proofs.Keeping.Written.{places_after, written_few, written_news, written_none, written_on}
use Rattle.cf_core.proofs.graph.Graph.finish_telling.Goals.{After-outcome, After-write_rest}
use Rattle.cf_core.proofs.graph.Graph.finish_telling.Goals as goal

none : (c : After-outcome) → lowest_marked_in c.self.inside.stages ≡ None
none c = rw (← c.self.view_is) at c.requires.worked_out

there : (c : After-outcome) → c.args.i < length c.self.inside.plan.stages
there c = rw (← c.self.view_is) at c.requires.stage

-- no stage waits for treatment
treated : (c : After-outcome) → AreTreated (c.args.i + 1) c.self.inside.stages.marks
treated c =
    let within = there c in
    let all = c.self.invariant.sound.all_marks in
    none_marked c.self.inside.stages.marks (c.args.i + 1) (none c) (omega (arith, within, all))

-- the caller's claim is open
has : (c : After-outcome) → option_map_or (λ w. w == c.args.who) (unwrap_or (slice_get c.self.inside.claims.items c.args.i) None) false ≡ true
has c = ap (λ xs. option_map_or (λ w. w == c.args.who) (unwrap_or (slice_get xs c.args.i) None) false) (sym c.deref.ensures.value) ∙ sym c.has_claim.ensures ∙ c.if-not-has_claim.false

told : (c : After-outcome) → outcome_in (settled_view_of c.self.inside.plan.stages c.self.inside.stages) c.args.i ≡ c.outcome.result
told c = told_outcome c.self.inside.plan.stages c.self.inside.stages c.args.i c.self.invariant.sound (there c) (treated c) ∙ sym c.outcome.ensures

pub landing_of-lands-requires-clause-treated : goal.landing_of-lands-requires-clause-treated
landing_of-lands-requires-clause-treated c =
    let at = (goal.at.landing_of-lands-requires-clause-treated c).After-outcome in
    treated_swept c.self.inside.plan.stages (c.args.i + 1) c.self.inside.stages c.self.invariant.sound (treated at)

pub land-requires-clause-treated : goal.land-requires-clause-treated
land-requires-clause-treated c = treated (goal.at.land-requires-clause-treated c).After-outcome

pub land-requires-clause-target : goal.land-requires-clause-target
land-requires-clause-target c j e = landing-lower _ _ _ _ j (sym c.landing_of-lands.ensures ∙ e)

pub land-requires-clause-composes : goal.land-requires-clause-composes
land-requires-clause-composes c j e = landing-composes _ _ _ _ j (sym c.landing_of-lands.ensures ∙ e)

pub land-requires-clause-claimed : goal.land-requires-clause-claimed
land-requires-clause-claimed c =
    let at = (goal.at.land-requires-clause-claimed c).After-outcome in
    let held = claim_there c.self.inside.claims.items c.args.i c.args.who (has at) in
    open_claimed _ (c.self.invariant.claimed c.args.i c.args.who held) (sym c.outcome.ensures ∙ c.in-None.is)

pub push_reserved-requires : goal.push_reserved-requires
push_reserved-requires c =
    let at = (goal.at.push_reserved-requires c).After-outcome in
    let within = there at in
    let room : length c.args.news.now.items + length c.self.inside.plan.stages ≤ vec_capacity c.args.news.now = rw (← c.self.view_is) at c.requires.places in
    omega (arith, within, room)

pub write_rest-requires-clause-places : goal.write_rest-requires-clause-places
write_rest-requires-clause-places c =
    let at = (goal.at.write_rest-requires-clause-places c).After-outcome in
    let row = c.args.news.now in
    let count = length c.self.inside.plan.stages in
    let left = lowest_marked_in c.land.new.self in
    let room : length row.items + count ≤ vec_capacity row = rw (← c.self.view_is) at c.requires.places in
    let more = ap length c.push_reserved.ensures.items ∙ length-append row.items (c.args.i ∷ []) in
    subst (HasPlaces count left (length c.push_reserved.new.self.items)) (sym c.push_reserved.ensures.capacity)
    (subst (λ n. HasPlaces count left n (vec_capacity row)) (sym more) (places_after count c.args.i (length row.items) (vec_capacity row) left (there at) room c.land.ensures.alone.1))

pub invariant_of-self-in-None : goal.invariant_of-self-in-None
invariant_of-self-in-None c =
    let s = c.self.inside.stages in
    let t = c.land.new.self in
    let claims = c.self.inside.claims.items in
    let h = c.self.invariant in
    record {
      growing = h.growing;
      sound = c.write_rest.ensures.sound;
      all_claims = length-set claims c.args.i None ∙ h.all_claims;
      claimed = AreClaimed-stay _ t.kept.items c.write_rest.new.self.kept.items (AreClaimed-closed claims s.kept.items t.kept.items c.args.i h.claimed c.land.ensures.taken) c.write_rest.ensures.taken;
      stages_room = room_stays _ _ t c.write_rest.new.self (room_stays _ _ s t h.stages_room c.land.ensures.room) c.write_rest.ensures.room;
      claims_room = h.claims_room;
      few_used = h.few_used;
    }

pub returns-in-Some-clause-told : goal.returns-in-Some-clause-told
returns-in-Some-clause-told c =
    let at = (goal.at.returns-in-Some-clause-told c).After-outcome in
    let seen = settled_view_of c.self.inside.plan.stages c.self.inside.stages in
    rw (← c.self.view_is) (finishes_late _ c.args.who c.args.i c.args.answer c.in-Some.field-0 seen refl (has at) (told at ∙ c.in-Some.is))

pub returns-in-None-clause-told : goal.returns-in-None-clause-told
returns-in-None-clause-told c =
    let at = (goal.at.returns-in-None-clause-told c).After-outcome in
    let plan = c.self.inside.plan.stages in
    rw (← c.self.view_is) (finishes_now _ c.args.who c.args.i c.args.answer _ c.landing_of-lands.result (settled_view_of plan c.self.inside.stages) (settled_view_of plan c.write_rest.new.self)
    refl (has at) (told at ∙ c.in-None.is) refl c.landing_of-lands.ensures (c.write_rest.ensures.same ∙ c.land.ensures.landed))

-- those that differ once all turns are taken
news : (c : After-write_rest) → WritesNews (settled_view_of c.self.inside.plan.stages c.self.inside.stages) (settled_view_of c.self.inside.plan.stages c.write_rest.new.self) c.args.news.now.items c.write_rest.new.news.items
news c =
    let plan = c.self.inside.plan.stages in
    let s = c.self.inside.stages in
    let t = c.land.new.self in
    let u = c.write_rest.new.self in
    let row = c.args.news.now.items in
    let old = stages_of s.kept.items in
    let mid = stages_of t.kept.items in
    let l = c.land.ensures in
    let rested : lowest_marked_in s ≡ None = rw (← c.self.view_is) at c.requires.worked_out in
    let here = subst (AreWritten old mid (lowest_marked_in t) row) (sym c.push_reserved.ensures.items)
    (written_on old old mid c.args.i (lowest_marked_in t) row row (written_none old (Some c.args.i) row) l.alone.0 l.further l.alone.1) in
    let rows = written_news old (stages_of u.kept.items) (lowest_marked_in u) row c.write_rest.new.news.items (c.write_rest.ensures.told old row here) in
    subst (λ stages. WritesNews stages (settled_view_of plan u) row c.write_rest.new.news.items) (kept_all plan s c.self.invariant.sound rested)
    (subst (λ stages. WritesNews old stages row c.write_rest.new.news.items) (kept_all plan u c.write_rest.ensures.sound c.write_rest.ensures.none) rows)

pub returns-in-None-clause-news : goal.returns-in-None-clause-news
returns-in-None-clause-news c = rw (← c.self.view_is) (news (goal.at.returns-in-None-clause-news c).After-write_rest)

pub returns-in-None-clause-few : goal.returns-in-None-clause-few
returns-in-None-clause-few c =
    let plan = c.self.inside.plan.stages in
    let s = c.self.inside.stages in
    let u = c.write_rest.new.self in
    let old : length (settled_view_of plan s) ≡ length plan = length-settled_view plan s.kept.items ∙ c.self.invariant.sound.all_kept in
    let new : length (settled_view_of plan u) ≡ length plan = length-settled_view plan u.kept.items ∙ c.write_rest.ensures.sound.all_kept in
    let few = written_few (settled_view_of plan s) (settled_view_of plan u) c.args.news.now.items c.write_rest.new.news.items (length plan)
    (omega (arith, old)) (omega (arith, new)) (news (goal.at.returns-in-None-clause-few c).After-write_rest) in
    rw (← c.self.view_is) few
