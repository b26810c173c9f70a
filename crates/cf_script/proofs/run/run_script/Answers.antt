use Rattle.cf_script.specs.Runs.{RunGives}
use Rattle.cf_script.proofs.PrintLemmas.{given_printed}
use Rattle.cf_script.proofs.run.run_script.Goals as goal

pub returns-clause-prints : goal.returns-clause-prints
returns-clause-prints g c = given_printed RunGives _ c.ran-given.result _ _ _ c.ran-given.ensures.gives c.print_given.ensures
