use Rattle.cf_expr.proofs.Runs.{quiet_is_expression}
use Rattle.cf_expr.proofs.quiet_stages_hold_their_expressions.Goals as goal

pub returns : goal.returns
returns c = quiet_is_expression
