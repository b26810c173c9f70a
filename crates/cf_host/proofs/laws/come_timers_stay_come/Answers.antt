use Rattle.cf_host.proofs.Clocks.{what_comes_has_come}
use Rattle.cf_host.proofs.laws.come_timers_stay_come.Goals as goal

pub returns : goal.returns
returns c = what_comes_has_come
