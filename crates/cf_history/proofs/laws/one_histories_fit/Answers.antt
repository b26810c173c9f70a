use Rattle.cf_history.proofs.Accounts.{one_histories_fit}
use Rattle.cf_history.proofs.laws.one_histories_fit.Goals as goal

pub returns : goal.returns
returns c = one_histories_fit
