use Rattle.cf_script_reading.proofs.steps.other.Goals as goal

pub returns-in-work-clause-fits : goal.returns-in-work-clause-fits
returns-in-work-clause-fits c = c.work.ensures.fits c.args.stages

pub returns-in-nudge-clause-fits : goal.returns-in-nudge-clause-fits
returns-in-nudge-clause-fits c = c.nudge.ensures.fits c.args.stages
