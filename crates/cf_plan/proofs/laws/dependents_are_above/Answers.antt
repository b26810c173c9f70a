use Rattle.cf_plan.proofs.DependentLemmas.{dependents_above}
use Rattle.cf_plan.proofs.laws.dependents_are_above.Goals as goal

pub returns : goal.returns
returns c = dependents_above 0
