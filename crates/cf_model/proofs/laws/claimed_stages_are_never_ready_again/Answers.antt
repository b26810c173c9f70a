use Rattle.cf_model.proofs.Claimable.{never_ready_again}
use Rattle.cf_model.proofs.laws.claimed_stages_are_never_ready_again.Goals as goal

pub returns : goal.returns
returns c = never_ready_again
