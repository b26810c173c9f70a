use Rattle.cf_history.proofs.Told.{one_shared_verdict}
use Rattle.cf_history.proofs.laws.one_shared_verdict.Goals as goal

pub returns : goal.returns
returns c = one_shared_verdict
