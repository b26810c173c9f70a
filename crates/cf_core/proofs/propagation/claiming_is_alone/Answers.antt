use Rattle.cf_core.proofs.Keeping.Writes.{claiming_is_alone}
use Rattle.cf_core.proofs.propagation.claiming_is_alone.Goals as goal

pub returns : goal.returns
returns c = claiming_is_alone
