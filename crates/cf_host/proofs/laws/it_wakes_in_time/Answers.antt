use Rattle.cf_host.proofs.Sleeping.{sleeps_in_time}
use Rattle.cf_host.proofs.laws.it_wakes_in_time.Goals as goal

pub returns : goal.returns
returns c = sleeps_in_time
