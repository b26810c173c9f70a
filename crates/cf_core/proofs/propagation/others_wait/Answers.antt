use Rattle.cf_core.proofs.Keeping.Marks.{others_wait}
use Rattle.cf_core.proofs.propagation.others_wait.Goals as goal

pub returns : goal.returns
returns c = others_wait
