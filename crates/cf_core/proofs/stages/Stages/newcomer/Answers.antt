use Rattle.std.proofs.Common.{◌∙◌, None, sym}
use Rattle.cf_core.proofs.Keeping.Takes.{rests}
use Rattle.cf_core.proofs.stages.Stages.newcomer.Goals as goal

pub returns-else-takes_now-clause-kept : goal.returns-else-takes_now-clause-kept
returns-else-takes_now-clause-kept c =
    sym (rests c.args.self.now.kept.items (record { form = c.args.form; sources = c.args.sources.now; function = None }) c.args.self.now.steps (sym c.takes_now.ensures ∙ c.if-takes_now.false))
