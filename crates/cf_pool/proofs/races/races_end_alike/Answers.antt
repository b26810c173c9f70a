use Rattle.cf_pool.proofs.Racing.Expressed.{races_end_alike}
use Rattle.cf_pool.proofs.races.races_end_alike.Goals as goal

pub returns : goal.returns
returns c = races_end_alike
