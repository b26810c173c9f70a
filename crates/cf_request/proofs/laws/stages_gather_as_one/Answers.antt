use Rattle.cf_request.proofs.Gathered.{gathers_as_one}
use Rattle.cf_request.proofs.laws.stages_gather_as_one.Goals as goal

pub returns : goal.returns
returns c = gathers_as_one
