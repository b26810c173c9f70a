use Rattle.cf_expr.proofs.Examples.{premises_met}
use Rattle.cf_expr.proofs.quiet_plain_histories_exist.Goals as goal

pub returns : goal.returns
returns c = premises_met
