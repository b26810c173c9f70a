use Rattle.cf_desk.proofs.TimeLemmas.{logs_only_grow}
use Rattle.cf_desk.proofs.laws.logs_only_grow.Goals as goal

pub returns : goal.returns
returns c = logs_only_grow
