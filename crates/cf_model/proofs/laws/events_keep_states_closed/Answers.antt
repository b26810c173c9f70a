use Rattle.cf_model.proofs.Closed.{keeps_closed}
use Rattle.cf_model.proofs.laws.events_keep_states_closed.Goals as goal

pub returns : goal.returns
returns c = keeps_closed
