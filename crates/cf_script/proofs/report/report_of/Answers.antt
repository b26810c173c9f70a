use Rattle.std.proofs.Common.{◌∙◌}
use Rattle.cf_script.proofs.ReportLemmas.{opening_fits}
use Rattle.cf_script.proofs.report.report_of.Goals as goal

pub write_lines-written-requires : goal.write_lines-written-requires
write_lines-written-requires c =
    let parts = c.into_parts-plan.ensures in
    opening_fits c.into_parts-plan.result.0 c.args.script.plan c.into_parts-plan.result.1 c.args.script.room c.deref-2.result.now c.args.script.steps c.in_ok-graph.graph.state
    parts.plan parts.room (c.deref-2.ensures.value ∙ parts.steps) c.in_ok-graph.ensures.start parts.said.steps_fit
