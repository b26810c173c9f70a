use Rattle.cf_desk.proofs.WaitFree.{calls_take_few_steps}
use Rattle.cf_desk.proofs.laws.calls_take_few_steps.Goals as goal

pub returns : goal.returns
returns c = calls_take_few_steps
