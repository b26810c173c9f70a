use Rattle.cf_model.proofs.Closed.{pending_none_settled}
use Rattle.cf_model.proofs.laws.pending_stages_have_no_settled_source.Goals as goal

pub returns : goal.returns
returns c = pending_none_settled
