use Rattle.cf_request.proofs.Rows.{comes_to_an_end}
use Rattle.cf_request.proofs.laws.running_comes_to_an_end.Goals as goal

pub returns : goal.returns
returns c = comes_to_an_end
