use Rattle.cf_plan.proofs.DependentLemmas.{all_dependents}
use Rattle.cf_plan.proofs.laws.each_edge_is_a_dependent.Goals as goal

pub returns : goal.returns
returns c = all_dependents
