use Rattle.cf_row.proofs.Ruled.{ruled}
use Rattle.cf_row.proofs.laws.numbers_are_ruled.Goals as goal

pub returns : goal.returns
returns c = ruled
