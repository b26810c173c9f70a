use Rattle.cf_explore_laws.proofs.Histories.{searches_judge_histories}
use Rattle.cf_explore_laws.proofs.laws.searches_judge_histories.Goals as goal

pub returns : goal.returns
returns c = searches_judge_histories
