use Rattle.cf_desk.proofs.Passes.{joins_told}
use Rattle.cf_desk.proofs.pass.Pass.tell_joined.Goals as goal

pub returns : goal.returns
returns c = joins_told _ _ _ _ _ _ _ c.outcome-outcome.ensures.told c.outcome-outcome.ensures.same c.tell.ensures.0 c.tell.ensures.1 c.joined_as.ensures
