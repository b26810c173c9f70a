use Rattle.cf_host.proofs.Processes.{all_call_once}
use Rattle.cf_host.proofs.laws.one_process_calls_each_function_of_a_request.Goals as goal

pub returns : goal.returns
returns c = all_call_once c.works_are_calls_of_parts.ensures c.one_work_calls_each_function.ensures
