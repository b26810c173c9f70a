use Rattle.cf_pool.proofs.Racing.Expressed.{raced_is_expression}
use Rattle.cf_script.proofs.RaceLemmas.{plain_lines}
use Rattle.cf_script.proofs.laws.plain_races_give_expressions.Goals as goal

pub returns : goal.returns
returns c = plain_lines raced_is_expression
