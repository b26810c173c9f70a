use Rattle.cf_row.proofs.Engines.{only_grow}
use Rattle.cf_row.proofs.laws.rows_only_grow.Goals as goal

pub returns : goal.returns
returns c = only_grow
