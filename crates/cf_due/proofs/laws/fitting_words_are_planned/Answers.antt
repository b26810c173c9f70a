use Rattle.cf_due.proofs.Behind.{planned_unless}
use Rattle.cf_due.proofs.laws.fitting_words_are_planned.Goals as goal

pub returns : goal.returns
returns c = planned_unless
