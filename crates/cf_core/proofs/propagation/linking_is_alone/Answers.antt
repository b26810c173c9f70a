use Rattle.cf_core.proofs.Keeping.Writes.{linking_is_alone}
use Rattle.cf_core.proofs.propagation.linking_is_alone.Goals as goal

pub returns : goal.returns
returns c = linking_is_alone
