use Rattle.cf_script.proofs.ReportLemmas.{first_fits, rest_fits, state_goes_on}
use Rattle.cf_picture.proofs.run.do_steps.Goals as goal

pub do_one-requires : goal.do_one-requires
do_one-requires c = first_fits _ _ _ c.steps.graph.state c.steps-test.true c.steps.invariant.fit

pub steps-preserved : goal.steps-preserved
steps-preserved c = record {
  fit = rest_fits _ _ _ _ c.steps.graph.state _ c.steps-test.true c.do_one.ensures c.steps.invariant.fit;
  state = state_goes_on _ _ _ _ _ _ _ c.steps-test.true c.do_one.ensures c.steps.invariant.state;
}
