use Rattle.std.proofs.Common.{◌<◌, All, length, subst, sym}
use Rattle.cf_forms.specs.Plans.{sources_of}
use Rattle.cf_model.specs.States.{State}
use Rattle.cf_reference.proofs.Attaching.{in_step-attached}
use Rattle.cf_reference.proofs.graph.ReferenceGraph.append.Goals as goal

pub invariant_of-self-2 : goal.invariant_of-self-2
invariant_of-self-2 c =
    let old = c.self.inside in
    let room = subst (λ (s : State). 0 < s.plan.room) (sym c.self.view_is) c.requires.room in
    let lower = subst (λ (s : State). All (λ j. j < length s.plan.stages) (sources_of c.args.of)) (sym c.self.view_is) c.requires.sources in
    rw (c.in_ok-attach.ensures.attached, c.push_reserved.ensures.items, c.push_reserved-2.ensures.items, c.reserve.ensures.items, c.reserve-2.ensures.items)
    (in_step-attached old.plan old.stages.items old.claims.items old.used c.args.form c.args.of c.args.function c.self.invariant room c.requires.fits lower)
