use Rattle.cf_desk.proofs.WaitFree.{each_is_one_step}
use Rattle.cf_desk.proofs.laws.each_is_one_step.Goals as goal

pub returns : goal.returns
returns c = each_is_one_step
