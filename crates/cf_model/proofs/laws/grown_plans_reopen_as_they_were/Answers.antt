use Rattle.cf_model.proofs.Growing.{grown_reopens}
use Rattle.cf_model.proofs.laws.grown_plans_reopen_as_they_were.Goals as goal

pub returns : goal.returns
returns c = grown_reopens
