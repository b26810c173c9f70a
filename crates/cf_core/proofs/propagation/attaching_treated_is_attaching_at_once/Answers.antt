use Rattle.cf_core.proofs.Keeping.Attaching.{attaching_is_after}
use Rattle.cf_core.proofs.propagation.attaching_treated_is_attaching_at_once.Goals as goal

pub returns : goal.returns
returns c = attaching_is_after
