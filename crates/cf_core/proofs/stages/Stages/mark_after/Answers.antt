use Rattle.std.proofs.Common.{◌∙◌, ap, sym}
use Rattle.cf_forms.specs.Plans.{dependents_of}
use Rattle.cf_core.specs.Keeping.Sound.{mark_all}
use Rattle.cf_core.proofs.Keeping.MarkLemmas.{empty_already}
use Rattle.cf_core.proofs.stages.Stages.mark_after.Goals as goal

pub returns-else-has_attached_or_linked-clause-marks : goal.returns-else-has_attached_or_linked-clause-marks
returns-else-has_attached_or_linked-clause-marks c =
    let s = c.args.self.now in
    let plan = c.args.plan.now in
    let kept = s.kept.items in
    let late = c.has_attached_or_linked.ensures in
    c.mark_few.ensures
    ∙ ap (λ stages. mark_all kept stages s.marks) (c.dependents.ensures.dependents ∙ sym (late.dependents c.if-has_attached_or_linked.false))
    ∙ ap (λ stages. mark_all kept stages (mark_all kept (dependents_of plan.stages c.args.d) s.marks)) (sym (late.links c.if-has_attached_or_linked.false))

pub returns-else-has_attached_or_linked-clause-links : goal.returns-else-has_attached_or_linked-clause-links
returns-else-has_attached_or_linked-clause-links c = empty_already c.args.self.now.links c.args.d (c.has_attached_or_linked.ensures.links c.if-has_attached_or_linked.false)
