use Rattle.cf_row.proofs.Engines.{itself_comes}
use Rattle.cf_row.proofs.laws.landed_puts_stand_once.Goals as goal

pub returns : goal.returns
returns c = itself_comes
