use Rattle.cf_turn.proofs.Runs.{all_works_call_once}
use Rattle.cf_turn.proofs.laws.one_work_calls_each_function.Goals as goal

pub returns : goal.returns
returns c = all_works_call_once c.one_process_calls_each_function.ensures
