use Rattle.cf_row.proofs.Granted.{claims_are_ones}
use Rattle.cf_row.proofs.laws.claims_are_one_sessions.Goals as goal

pub returns : goal.returns
returns c = claims_are_ones
