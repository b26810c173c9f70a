use Rattle.cf_history.proofs.Single.{one_verdict}
use Rattle.cf_history.proofs.laws.one_verdict.Goals as goal

pub returns : goal.returns
returns c = one_verdict
