use Rattle.cf_script.proofs.ReportLemmas.{first_fits, lines_go_on, rest_fits, state_goes_on}
use Rattle.cf_script.proofs.report.write_steps.Goals as goal

pub write_step-requires : goal.write_step-requires
write_step-requires c = first_fits _ _ _ c.steps.graph.state c.steps-test.true c.steps.invariant.fit

pub steps-preserved : goal.steps-preserved
steps-preserved c = record {
  fit = rest_fits _ _ _ _ c.steps.graph.state _ c.steps-test.true c.write_step.ensures.state c.steps.invariant.fit;
  lines = lines_go_on _ _ _ _ _ _ _ _ _ c.steps-test.true c.in_ok-write_step.ensures.line c.write_step.ensures.state c.steps.invariant.lines;
  state = state_goes_on _ _ _ _ _ _ _ c.steps-test.true c.write_step.ensures.state c.steps.invariant.state;
}
