use Rattle.cf_host.proofs.Keeping.{stays_asked}
use Rattle.cf_host.proofs.laws.what_is_asked_stays_so.Goals as goal

pub returns : goal.returns
returns c = stays_asked
