use Rattle.cf_core.proofs.Keeping.Turns.{turns_change_nothing}
use Rattle.cf_core.proofs.propagation.turns_change_nothing.Goals as goal

pub returns : goal.returns
returns c = turns_change_nothing
