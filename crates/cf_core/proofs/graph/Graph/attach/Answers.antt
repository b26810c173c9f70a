use Rattle.std.proofs.Common.{◌<◌, arith}
use Rattle.cf_forms.specs.Plans.{sources_of}
use Rattle.cf_core.proofs.Keeping.GraphLemmas.{attach_in_step}
use Rattle.cf_core.proofs.Keeping.Resting.{attaches_resting}
use Rattle.cf_core.proofs.graph.Graph.attach.Goals as goal

pub invariant_of-self : goal.invariant_of-self
invariant_of-self c =
    let plan = c.self.inside.plan in
    let s = c.self.inside.stages in
    let t = c.treat_all.new.self in
    let u = c.attach.new.self in
    let room : 0 < plan.room = omega (arith, c.room.ensures, c.if-room-eq0.false) in
    rw (c.attach-2.ensures, c.push_reserved.ensures.items, c.push_reserved.ensures.capacity)
    (attach_in_step plan c.args.form c.args.of c.args.function s t u c.self.inside.claims.items _ c.self.inside.used c.self.invariant room c.requires.fits (rw (← c.self.view_is) at c.requires.sources)
    c.treat_all.ensures.taken c.attach.ensures.taken c.treat_all.ensures.room c.attach.ensures.room (c.attach.ensures.sound c.args.function))

pub returns-clause-rests : goal.returns-clause-rests
returns-clause-rests c =
    let plan = c.self.inside.plan in
    let s = c.self.inside.stages in
    let t = c.treat_all.new.self in
    let u = c.attach.new.self in
    let room : 0 < plan.room = omega (arith, c.room.ensures, c.if-room-eq0.false) in
    rw (← c.self.view_is) (record {
      full = λ e. absurd (omega (arith, room, e));
      one = λ l none. attaches_resting plan.stages s t u c.args.form (sources_of c.args.of) (c.treat_all.ensures.still none) c.treat_all.ensures.sound c.treat_all.ensures.treated c.attach.ensures.counted;
    })
