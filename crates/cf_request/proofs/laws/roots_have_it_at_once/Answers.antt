use Rattle.cf_request.proofs.Gathered.{gathers_at_once}
use Rattle.cf_request.proofs.laws.roots_have_it_at_once.Goals as goal

pub returns : goal.returns
returns c = gathers_at_once
