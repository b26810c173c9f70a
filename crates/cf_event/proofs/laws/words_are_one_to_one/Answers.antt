use Rattle.cf_event.proofs.WordLemmas.{one_to_one}
use Rattle.cf_event.proofs.laws.words_are_one_to_one.Goals as goal

pub returns : goal.returns
returns c = one_to_one
