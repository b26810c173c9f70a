use Rattle.cf_row.proofs.Engines.{once_or_never}
use Rattle.cf_row.proofs.laws.puts_stand_once_or_never.Goals as goal

pub returns : goal.returns
returns c = once_or_never
