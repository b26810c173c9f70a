use Rattle.cf_watch.proofs.Beating.{spares_who_beats}
use Rattle.cf_watch.proofs.laws.who_beats_is_spared.Goals as goal

pub returns : goal.returns
returns c = spares_who_beats
