use Rattle.cf_host.proofs.Keeping.{stays_wanted}
use Rattle.cf_host.proofs.laws.what_is_wanted_stays_so.Goals as goal

pub returns : goal.returns
returns c = stays_wanted
