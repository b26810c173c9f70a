use Rattle.cf_expr.proofs.Parts.{work_keeps_expressions}
use Rattle.cf_expr.proofs.work_keeps_expressions.Goals as goal

pub returns : goal.returns
returns c = work_keeps_expressions
