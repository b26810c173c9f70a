use Rattle.cf_script_reading.proofs.RaceReadingLemmas.{races_are_read_as_runs}
use Rattle.cf_script_reading.proofs.laws.races_are_read_as_runs.Goals as goal

pub returns : goal.returns
returns c = races_are_read_as_runs
