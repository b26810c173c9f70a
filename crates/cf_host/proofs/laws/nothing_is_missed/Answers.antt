use Rattle.cf_host.proofs.Covered.{nothing_is_missed}
use Rattle.cf_host.proofs.laws.nothing_is_missed.Goals as goal

pub returns : goal.returns
returns c = nothing_is_missed
