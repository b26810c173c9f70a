use Rattle.cf_plan.proofs.DependentLemmas.{dependents_there}
use Rattle.cf_plan.proofs.laws.dependents_are_there.Goals as goal

pub returns : goal.returns
returns c = dependents_there
