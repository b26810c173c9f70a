use Rattle.cf_part.proofs.Works.{all_call_once}
use Rattle.cf_part.proofs.laws.one_process_calls_each_function.Goals as goal

pub returns : goal.returns
returns c = all_call_once c.claims_are_one_sessions.ensures
