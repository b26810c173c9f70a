use Rattle.cf_host.proofs.Clocks.{limits_come_in_time}
use Rattle.cf_host.proofs.laws.limits_come_in_time.Goals as goal

pub returns : goal.returns
returns c = limits_come_in_time
