use Rattle.cf_script.proofs.WorkLemmas.{worked-ends}
use Rattle.cf_script.proofs.laws.work_leaves_nothing_ready.Goals as goal

pub returns : goal.returns
returns c = worked-ends
