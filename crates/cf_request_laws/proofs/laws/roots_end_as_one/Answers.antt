use Rattle.cf_request_laws.proofs.Gathers.{roots_end_as_one}
use Rattle.cf_request_laws.proofs.laws.roots_end_as_one.Goals as goal

pub returns : goal.returns
returns c = roots_end_as_one
