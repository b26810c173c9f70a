use Rattle.cf_request.proofs.Rows.{begins_anew}
use Rattle.cf_request.proofs.laws.a_row_begins_anew.Goals as goal

pub returns : goal.returns
returns c = begins_anew
