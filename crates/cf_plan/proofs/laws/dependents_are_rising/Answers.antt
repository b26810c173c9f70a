use Rattle.cf_plan.proofs.DependentLemmas.{dependents_rising}
use Rattle.cf_plan.proofs.laws.dependents_are_rising.Goals as goal

pub returns : goal.returns
returns c = dependents_rising 0
