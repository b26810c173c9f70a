use Rattle.cf_part.proofs.Rows.{keeps_owed}
use Rattle.cf_part.proofs.laws.what_is_owed_is_kept.Goals as goal

pub returns : goal.returns
returns c = keeps_owed
