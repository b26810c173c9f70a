use Rattle.cf_model.proofs.Closed.{reached_closed}
use Rattle.cf_model.proofs.laws.reached_states_are_closed.Goals as goal

pub returns : goal.returns
returns c = reached_closed
