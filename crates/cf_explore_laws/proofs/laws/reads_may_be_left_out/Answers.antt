use Rattle.cf_explore_laws.proofs.LeftOut.{reads_may_be_left_out}
use Rattle.cf_explore_laws.proofs.laws.reads_may_be_left_out.Goals as goal

pub returns : goal.returns
returns c = reads_may_be_left_out
