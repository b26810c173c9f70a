use Rattle.std.proofs.Common.{◌∙◌, ap, sym}
use Rattle.cf_core.specs.Keeping.Sound.{marks_after}
use Rattle.cf_core.proofs.stages.Stages.note.Goals as goal

pub returns-in-Settled-clause-marks : goal.returns-in-Settled-clause-marks
returns-in-Settled-clause-marks c =
    let s = c.args.self.now in
    c.mark_all_after.ensures.marks
    ∙ ap (marks_after c.args.plan.now.stages s.kept.items s.links s.marks c.args.d) (sym c.in-Settled.is ∙ c.stage.ensures)
