use Rattle.cf_model.proofs.Closed.{reached_lower}
use Rattle.cf_model.proofs.laws.reached_states_link_lower.Goals as goal

pub returns : goal.returns
returns c = reached_lower
