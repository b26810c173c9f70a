use Rattle.cf_example.proofs.OverCalls.{relays_stay}
use Rattle.cf_example.proofs.keeping.relays_stay.Goals as goal

pub returns : goal.returns
returns c = relays_stay
