use Rattle.cf_expr.proofs.Examples.{premises_needed}
use Rattle.cf_expr.proofs.other_histories_leave_their_expressions.Goals as goal

pub returns : goal.returns
returns c = premises_needed
