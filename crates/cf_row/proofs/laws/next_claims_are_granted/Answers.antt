use Rattle.cf_row.proofs.Granting.{next_granted}
use Rattle.cf_row.proofs.laws.next_claims_are_granted.Goals as goal

pub returns : goal.returns
returns c = next_granted
