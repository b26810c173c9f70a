use Rattle.cf_host.proofs.Seeing.{sees_by_answers}
use Rattle.cf_host.proofs.laws.what_is_seen_comes_by_answers.Goals as goal

pub returns : goal.returns
returns c = sees_by_answers
