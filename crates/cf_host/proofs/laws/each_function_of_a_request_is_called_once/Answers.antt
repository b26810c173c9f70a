use Rattle.cf_host.proofs.CalledOnce.{calls_once}
use Rattle.cf_host.proofs.laws.each_function_of_a_request_is_called_once.Goals as goal

pub returns : goal.returns
returns c = calls_once c.works_are_calls_of_parts.ensures c.each_function_is_called_once.ensures
