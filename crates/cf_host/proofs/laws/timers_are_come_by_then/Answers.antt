use Rattle.cf_host.proofs.Clocks.{timers_come_by_then}
use Rattle.cf_host.proofs.laws.timers_are_come_by_then.Goals as goal

pub returns : goal.returns
returns c = timers_come_by_then
