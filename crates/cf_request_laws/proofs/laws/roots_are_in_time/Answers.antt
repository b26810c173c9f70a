use Rattle.cf_request_laws.proofs.Gathers.{roots_are_in_time}
use Rattle.cf_request_laws.proofs.laws.roots_are_in_time.Goals as goal

pub returns : goal.returns
returns c = roots_are_in_time
