use Rattle.cf_request.proofs.Ends.{runs_none_within}
use Rattle.cf_request.proofs.laws.ended_scopes_run_nothing.Goals as goal

pub returns : goal.returns
returns c = runs_none_within
