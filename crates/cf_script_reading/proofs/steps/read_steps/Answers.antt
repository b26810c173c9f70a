use Rattle.cf_script_reading.specs.Steps.{step_next}
use Rattle.cf_script_reading.specs.Views.{progressed}
use Rattle.cf_script_reading.proofs.ReadingProgress.{goes_on_is}
use Rattle.cf_script_reading.proofs.Loop.{goes_on, fails_at, is_done}
use Rattle.cf_script_reading.proofs.steps.read_steps.Goals as goal

pub steps-preserved : goal.steps-preserved
steps-preserved c = record {
  leads = goes_on_is c.args.purpose _ _ (progressed c.steps.progress) (progressed c.add_step.new.progress) c.in_default.ensures.goes_on c.steps.invariant.leads;
  so_far = goes_on (step_next c.args.purpose c.args.version) (progressed c.steps.progress) (progressed c.add_step.new.progress) c.args.list.now c.steps.json-index c.json-item.result _
      c.steps-test.true c.json-item.is c.in_default.ensures.gives c.steps.invariant.so_far;
}

pub returns-in-Err-clause-gives : goal.returns-in-Err-clause-gives
returns-in-Err-clause-gives c = fails_at (step_next c.args.purpose c.args.version) c.in-Err.e (progressed c.steps.progress) c.args.list.now c.steps.json-index c.json-item.result _
    c.steps-test.true c.json-item.is c.in-Err.ensures.gives c.steps.invariant.so_far

pub returns-clause-gives : goal.returns-clause-gives
returns-clause-gives c = is_done (step_next c.args.purpose c.args.version) (progressed c.steps.progress) c.args.list.now c.steps.json-index _ c.steps-test.false c.steps.invariant.so_far
