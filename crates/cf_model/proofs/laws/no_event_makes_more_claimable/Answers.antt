use Rattle.cf_model.proofs.Claimable.{answered-claimable}
use Rattle.cf_model.proofs.laws.no_event_makes_more_claimable.Goals as goal

pub returns : goal.returns
returns c = answered-claimable
