use Rattle.cf_script_reading.specs.Limits.{limit_next}
use Rattle.cf_script_reading.proofs.Loop.{goes_on, fails_at, is_done}
use Rattle.std.proofs.Common.{◌∙◌}
use Rattle.cf_script_reading.proofs.limits.read_limits.Goals as goal

pub limits-preserved : goal.limits-preserved
limits-preserved c = record {
  stages = c.in_default.ensures.stages ∙ c.limits.invariant.stages;
  so_far = goes_on limit_next c.limits.plan.plan c.add_limit.new.plan.plan c.args.list.now c.limits.json-index c.json-item.result _
      c.limits-test.true c.json-item.is c.in_default.ensures.gives c.limits.invariant.so_far;
}

pub returns-in-Err-clause-gives : goal.returns-in-Err-clause-gives
returns-in-Err-clause-gives c = fails_at limit_next c.in-Err.e c.limits.plan.plan c.args.list.now c.limits.json-index c.json-item.result _
    c.limits-test.true c.json-item.is c.in-Err.ensures.gives c.limits.invariant.so_far

pub returns-clause-gives : goal.returns-clause-gives
returns-clause-gives c = is_done limit_next c.limits.plan.plan c.args.list.now c.limits.json-index _ c.limits-test.false c.limits.invariant.so_far
