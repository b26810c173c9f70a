use Rattle.cf_host.proofs.Questions.{asks_behind_seen}
use Rattle.cf_host.proofs.laws.questions_are_behind_all_that_is_seen.Goals as goal

pub returns : goal.returns
returns c = asks_behind_seen
