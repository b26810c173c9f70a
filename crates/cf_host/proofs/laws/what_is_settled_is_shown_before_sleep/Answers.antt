use Rattle.cf_host.proofs.Keeping.{shows_before_sleep}
use Rattle.cf_host.proofs.laws.what_is_settled_is_shown_before_sleep.Goals as goal

pub returns : goal.returns
returns c = shows_before_sleep
