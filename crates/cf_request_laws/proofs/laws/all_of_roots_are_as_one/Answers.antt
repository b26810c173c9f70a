use Rattle.cf_request_laws.proofs.Gathers.{all_of_roots_are_as_one}
use Rattle.cf_request_laws.proofs.laws.all_of_roots_are_as_one.Goals as goal

pub returns : goal.returns
returns c = all_of_roots_are_as_one
