use Rattle.cf_explore_laws.proofs.Histories.{searches_cover_histories}
use Rattle.cf_explore_laws.proofs.laws.searches_cover_histories.Goals as goal

pub returns : goal.returns
returns c = searches_cover_histories
