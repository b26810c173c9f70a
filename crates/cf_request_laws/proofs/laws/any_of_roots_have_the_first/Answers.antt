use Rattle.cf_request_laws.proofs.Gathers.{any_of_roots_have_the_first}
use Rattle.cf_request_laws.proofs.laws.any_of_roots_have_the_first.Goals as goal

pub returns : goal.returns
returns c = any_of_roots_have_the_first
