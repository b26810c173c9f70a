use Rattle.cf_plan.proofs.DependentLemmas.{dependents_converse}
use Rattle.cf_plan.proofs.laws.dependents_are_the_converse_of_sources.Goals as goal

pub returns : goal.returns
returns c = dependents_converse
