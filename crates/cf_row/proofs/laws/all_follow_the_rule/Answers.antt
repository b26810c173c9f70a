use Rattle.cf_row.proofs.Whole.{all_follow}
use Rattle.cf_row.proofs.laws.all_follow_the_rule.Goals as goal

pub returns : goal.returns
returns c = all_follow
