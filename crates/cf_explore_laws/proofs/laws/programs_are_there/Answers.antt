use Rattle.cf_explore_laws.proofs.Programs.{programs_are_there}
use Rattle.cf_explore_laws.proofs.laws.programs_are_there.Goals as goal

pub returns : goal.returns
returns c = programs_are_there
