use Rattle.cf_row.proofs.Engines.{one_put}
use Rattle.cf_row.proofs.laws.puts_keep_once_or_never.Goals as goal

pub returns : goal.returns
returns c = one_put
