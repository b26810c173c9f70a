use Rattle.cf_script.specs.Races.{RaceGives}
use Rattle.cf_script.proofs.PrintLemmas.{given_printed}
use Rattle.cf_script.proofs.race.race_script.Goals as goal

pub returns-clause-prints : goal.returns-clause-prints
returns-clause-prints g c = given_printed (RaceGives c.args.workers) _ c.raced-given.result _ _ _ c.raced-given.ensures.gives c.print_given.ensures
