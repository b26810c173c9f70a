use Rattle.std.proofs.Common.{rules}
use Rattle.cf_script_reading.specs.Reading.{outline_of, script_of}
use Rattle.cf_script_reading.proofs.reading.script.Goals as goal

pub returns-in_err-plan-clause-says : goal.returns-in_err-plan-clause-says
unfolding script_of outline_of
returns-in_err-plan-clause-says c = search rules

pub returns-in_err-read_steps-clause-says : goal.returns-in_err-read_steps-clause-says
unfolding script_of outline_of
returns-in_err-read_steps-clause-says c = search rules
