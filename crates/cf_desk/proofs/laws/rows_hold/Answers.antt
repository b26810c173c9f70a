use Rattle.cf_desk.proofs.RowLemmas.{rows_hold}
use Rattle.cf_desk.proofs.laws.rows_hold.Goals as goal

pub returns : goal.returns
returns c = rows_hold
