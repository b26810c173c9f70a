use Rattle.cf_script_reading.specs.declared.fault.ReadingFault.TheVariants.{Shape}
use Rattle.cf_script_reading.specs.declared.fault.Part.TheVariants.{Stage}
use Rattle.cf_script_reading.specs.Stages.{source_next}
use Rattle.cf_script_reading.proofs.Loop.{goes_on, fails_at, is_done}
use Rattle.cf_script_reading.proofs.stages.read_sources.Goals as goal

pub sources-preserved : goal.sources-preserved
sources-preserved c = goes_on (source_next (Shape (Stage c.args.k))) c.sources.found.items c.add_source.new.found.items c.args.list.now c.sources.json-index c.json-item.result _
    c.sources-test.true c.json-item.is c.in_default.ensures c.sources.invariant

pub returns-in-Err : goal.returns-in-Err
returns-in-Err c = fails_at (source_next (Shape (Stage c.args.k))) c.in-Err.e c.sources.found.items c.args.list.now c.sources.json-index c.json-item.result _
    c.sources-test.true c.json-item.is c.in-Err.ensures c.sources.invariant

pub returns : goal.returns
returns c = is_done (source_next (Shape (Stage c.args.k))) c.sources.found.items c.args.list.now c.sources.json-index _ c.sources-test.false c.sources.invariant
