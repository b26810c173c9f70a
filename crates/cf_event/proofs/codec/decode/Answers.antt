use Rattle.std.proofs.Common.{sym}
use Rattle.cf_event.specs.Decoding.{event_of}
use Rattle.cf_event.proofs.WordLemmas.{every_is, found_is}
use Rattle.cf_event.proofs.codec.decode.Goals as goal

pub returns-clause-found : goal.returns-clause-found
unfolding event_of
returns-clause-found c = found_is c.args.w c.event_with.result (sym c.event_with.ensures)

pub returns-clause-every : goal.returns-clause-every
unfolding event_of
returns-clause-every c = every_is c.args.w c.event_with.result (sym c.event_with.ensures)
