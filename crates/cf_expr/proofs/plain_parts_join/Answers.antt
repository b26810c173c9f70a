use Rattle.cf_expr.proofs.Parts.{plain_append}
use Rattle.cf_expr.proofs.plain_parts_join.Goals as goal

pub returns : goal.returns
returns c = plain_append
