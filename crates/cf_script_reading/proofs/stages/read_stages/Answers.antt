use Rattle.cf_script_reading.specs.Stages.{stage_next}
use Rattle.cf_script_reading.specs.Views.{drafted}
use Rattle.cf_script_reading.proofs.Loop.{goes_on, fails_at, is_done}
use Rattle.cf_script_reading.proofs.stages.read_stages.Goals as goal

pub stages-preserved : goal.stages-preserved
stages-preserved c = record {
  numbered = c.in_default.ensures.numbered c.stages.invariant.numbered;
  so_far = goes_on (stage_next c.args.version) (drafted c.stages.draft) (drafted c.add_stage.new.draft) c.args.list.now c.stages.json-index c.json-item.result _
      c.stages-test.true c.json-item.is c.in_default.ensures.gives c.stages.invariant.so_far;
}

pub returns-in-Err-clause-gives : goal.returns-in-Err-clause-gives
returns-in-Err-clause-gives c = fails_at (stage_next c.args.version) c.in-Err.e (drafted c.stages.draft) c.args.list.now c.stages.json-index c.json-item.result _
    c.stages-test.true c.json-item.is c.in-Err.ensures.gives c.stages.invariant.so_far

pub returns-clause-gives : goal.returns-clause-gives
returns-clause-gives c = is_done (stage_next c.args.version) (drafted c.stages.draft) c.args.list.now c.stages.json-index _ c.stages-test.false c.stages.invariant.so_far
