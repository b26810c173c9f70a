use Rattle.cf_turn.proofs.Fitting.{puts_fit as fit}
use Rattle.cf_turn.proofs.laws.puts_fit.Goals as goal

pub returns : goal.returns
returns c = fit
