use Rattle.cf_part.proofs.Rows.{calls_once}
use Rattle.cf_part.proofs.laws.each_function_is_called_once.Goals as goal

pub returns : goal.returns
returns c = calls_once
