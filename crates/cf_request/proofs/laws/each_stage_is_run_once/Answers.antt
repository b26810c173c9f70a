use Rattle.cf_request.proofs.Rows.{runs_once}
use Rattle.cf_request.proofs.laws.each_stage_is_run_once.Goals as goal

pub returns : goal.returns
returns c = runs_once
