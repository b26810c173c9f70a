use Rattle.cf_turn.proofs.Truth.{acts_told_truly}
use Rattle.cf_turn.proofs.laws.acts_are_told_truly.Goals as goal

pub returns : goal.returns
returns c = acts_told_truly
