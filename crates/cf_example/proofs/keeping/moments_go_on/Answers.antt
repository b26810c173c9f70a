use Rattle.cf_example.proofs.OverCalls.{moments_on}
use Rattle.cf_example.proofs.keeping.moments_go_on.Goals as goal

pub returns : goal.returns
returns c = moments_on
