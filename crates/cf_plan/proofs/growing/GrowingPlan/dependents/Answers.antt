use Rattle.std.proofs.Common.{◌∙◌, arith, ap, map, sym}
use Rattle.std.proofs.Math.Seq.{take-append_seam}
use Rattle.cf_plan.specs.Growing.{attached_of}
use Rattle.cf_forms.specs.Plans.{dependents_of}
use Rattle.cf_plan.proofs.GrowingLemmas.{dependents_past}
use Rattle.cf_plan.proofs.growing.GrowingPlan.dependents.Goals as goal

pub returns-else-i-stages-clause-dependents : goal.returns-else-i-stages-clause-dependents
returns-else-i-stages-clause-dependents c =
    let opening = c.self.inside.opening in
    let whole = take-append_seam opening.stages (map attached_of c.self.inside.rows.items) in
    rw (← c.self.view_is) (dependents_past opening.stages c.args.i c.stages.ensures.built.lower (omega (arith, c.stages.ensures.count, c.if-i-stages.false))
    ∙ ap (λ xs. dependents_of xs c.args.i) (sym whole))
