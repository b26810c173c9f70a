use Rattle.cf_watch.proofs.Silence.{tells_who_is_silent}
use Rattle.cf_watch.proofs.laws.the_gone_were_silent.Goals as goal

pub returns : goal.returns
returns c = tells_who_is_silent
