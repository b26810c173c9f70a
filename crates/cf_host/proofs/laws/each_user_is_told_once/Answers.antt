use Rattle.cf_host.proofs.ToldOnce.{tells_once}
use Rattle.cf_host.proofs.laws.each_user_is_told_once.Goals as goal

pub returns : goal.returns
returns c = tells_once
