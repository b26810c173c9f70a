use Rattle.cf_pool.proofs.PlainRuns.{runs_end_plainly}
use Rattle.cf_pool.proofs.pool.runs_end_plainly.Goals as goal

pub returns : goal.returns
returns c = runs_end_plainly
