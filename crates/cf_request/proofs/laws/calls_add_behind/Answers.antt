use Rattle.cf_request.proofs.Rows.{adds_behind}
use Rattle.cf_request.proofs.laws.calls_add_behind.Goals as goal

pub returns : goal.returns
returns c = adds_behind
