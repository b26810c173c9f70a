use Rattle.cf_model.proofs.Moves.{keeps_outcomes}
use Rattle.cf_model.proofs.laws.settled_stages_keep_their_outcomes.Goals as goal

pub returns : goal.returns
returns c = keeps_outcomes
