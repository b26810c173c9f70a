use Rattle.cf_script_reading.proofs.steps.own.Goals as goal

pub returns-in-tick-clause-fits : goal.returns-in-tick-clause-fits
returns-in-tick-clause-fits c = c.tick.ensures.fits c.args.stages
