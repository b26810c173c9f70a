use Rattle.cf_model.proofs.Claimable.{claiming-claimable}
use Rattle.cf_model.proofs.laws.granted_claims_leave_fewer_claimable.Goals as goal

pub returns : goal.returns
returns c = claiming-claimable
