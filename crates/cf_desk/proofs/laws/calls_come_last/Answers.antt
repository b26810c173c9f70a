use Rattle.cf_desk.proofs.TimeLemmas.{calls_come_last}
use Rattle.cf_desk.proofs.laws.calls_come_last.Goals as goal

pub returns : goal.returns
returns c = calls_come_last
