use Rattle.cf_desk.proofs.Histories.{one_history_shows}
use Rattle.cf_desk.proofs.laws.one_history_shows.Goals as goal

pub returns : goal.returns
returns c = one_history_shows
