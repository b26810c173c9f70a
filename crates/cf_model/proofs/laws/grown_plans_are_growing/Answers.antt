use Rattle.cf_model.proofs.Growing.{grown_growing}
use Rattle.cf_model.proofs.laws.grown_plans_are_growing.Goals as goal

pub returns : goal.returns
returns c = grown_growing
