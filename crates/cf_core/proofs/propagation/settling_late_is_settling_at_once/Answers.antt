use Rattle.cf_core.proofs.Keeping.Settling.{settling_is_after}
use Rattle.cf_core.proofs.propagation.settling_late_is_settling_at_once.Goals as goal

pub returns : goal.returns
returns c = settling_is_after
