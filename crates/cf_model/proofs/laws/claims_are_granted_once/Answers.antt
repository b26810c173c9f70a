use Rattle.cf_model.proofs.Moves.{grants_once}
use Rattle.cf_model.proofs.laws.claims_are_granted_once.Goals as goal

pub returns : goal.returns
returns c = grants_once
