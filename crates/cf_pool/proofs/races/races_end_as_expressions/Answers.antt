use Rattle.cf_pool.proofs.Racing.Expressed.{raced_is_expression}
use Rattle.cf_pool.proofs.races.races_end_as_expressions.Goals as goal

pub returns : goal.returns
returns c = raced_is_expression
