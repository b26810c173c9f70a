use Rattle.std.proofs.Common.{◌∙◌, sym}
use Rattle.cf_core.proofs.Keeping.Lowest.{unready_out}
use Rattle.cf_core.proofs.stages.Stages.unready.Goals as goal

pub returns-else-is_ready-clause-ready : goal.returns-else-is_ready-clause-ready
returns-else-is_ready-clause-ready c =
    let s = c.args.self.now in
    unready_out c.args.plan.now.stages s.kept.items s.marks s.ready s.links s.steps s.turns c.requires.sound c.args.d c.requires.stage (sym c.is_ready.ensures ∙ c.if-is_ready.false)
