use Rattle.cf_telling.proofs.Escapes.{written_shown}
use Rattle.cf_telling.proofs.laws.texts_are_shown.Goals as goal

pub returns : goal.returns
returns c = written_shown
