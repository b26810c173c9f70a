use Rattle.std.proofs.Common.{rules, ◌≡◌, ◌∙◌, ap}
use Rattle.cf_forms.specs.Plans.{dependents_of, opening_of}
use Rattle.cf_core.specs.Keeping.Links.{list_at}
use Rattle.cf_core.specs.Keeping.Sound.{mark_all}
use Rattle.cf_core.proofs.Keeping.MarkLemmas.{mark_all-both}
use Rattle.cf_core.proofs.stages.Stages.mark_all_after.Goals as goal

pub returns-clause-marks : goal.returns-clause-marks
returns-clause-marks c =
    let plan = c.args.plan.now in
    let kept = c.args.self.now.kept.items in
    let marks = c.args.self.now.marks in
    let first : c.mark_each.new.marks ≡ mark_all kept (dependents_of (opening_of plan).stages c.args.d) marks = search rules in
    let attached : c.mark_attached_dependents.new.marks ≡ mark_all kept c.attached_dependents.result c.mark_each.new.marks = search rules in
    let linked : c.mark_linked.new.marks ≡ mark_all kept (list_at c.args.self.now.links c.args.d) c.mark_attached_dependents.new.marks = search rules in
    linked
    ∙ ap (mark_all kept (list_at c.args.self.now.links c.args.d))
    (attached ∙ ap (mark_all kept c.attached_dependents.result) first
    ∙ mark_all-both kept (dependents_of (opening_of plan).stages c.args.d) c.attached_dependents.result (dependents_of plan.stages c.args.d) marks c.attached_dependents.ensures.rest)
