use Rattle.std.proofs.Common.{◌<◌, ◌∙◌, None, arith, length, length-set}
use Rattle.cf_core.specs.Keeping.SoundStages.{settled_view_of}
use Rattle.cf_core.proofs.Keeping.GraphLemmas.{AreClaimed-closed, AreClaimed-stay, room_stays}
use Rattle.cf_core.proofs.Keeping.Serving.{found_within, runs_once}
use Rattle.cf_core.proofs.graph.Graph.work_once.Goals as goal

pub index_mut-requires : goal.index_mut-requires
index_mut-requires g c =
    let h = c.self.invariant in
    let l = found_within c.self.inside.plan.stages c.self.inside.stages c.in-Some.i h.sound c.in-Some.ensures.told in
    omega (arith, l, h.all_claims)

pub serve-requires-clause-stage : goal.serve-requires-clause-stage
serve-requires-clause-stage g c = found_within c.self.inside.plan.stages c.self.inside.stages c.in-Some.i c.self.invariant.sound c.in-Some.ensures.told

pub invariant_of-self-in-Some : goal.invariant_of-self-in-Some
invariant_of-self-in-Some g c =
    let s = c.self.inside.stages in
    let t = c.lowest_ready.new.self in
    let claims = c.self.inside.claims.items in
    let h = c.self.invariant in
    record {
      growing = h.growing;
      sound = c.serve.ensures.sound;
      all_claims = length-set claims c.in-Some.i None ∙ h.all_claims;
      claimed = AreClaimed-closed claims t.kept.items c.serve.new.stages.kept.items c.in-Some.i (AreClaimed-stay claims s.kept.items t.kept.items h.claimed c.in-Some.ensures.taken) c.serve.ensures.taken;
      stages_room = room_stays _ _ t c.serve.new.stages (room_stays _ _ s t h.stages_room c.in-Some.ensures.room) c.serve.ensures.room;
      claims_room = h.claims_room;
      few_used = h.few_used;
    }

pub returns-in-Some-clause-called : goal.returns-in-Some-clause-called
returns-in-Some-clause-called g c =
    let plan = c.self.inside.plan.stages in
    let s = c.self.inside.stages in
    let t = c.lowest_ready.new.self in
    let h = c.self.invariant in
    let l = found_within plan s c.in-Some.i h.sound c.in-Some.ensures.told in
    let lc : c.in-Some.i < length c.self.inside.claims.items = omega (arith, l, h.all_claims) in
    rw (← c.self.view_is) (runs_once g.F.Functions.calls c.args.who _ c.args.functions.now c.serve.new.functions c.in-Some.i (settled_view_of plan t) (settled_view_of plan c.serve.new.stages)
    c.in-Some.ensures.same lc c.serve.ensures.served)
