use Rattle.cf_request.proofs.Fits.{kept_took}
use Rattle.cf_request.proofs.machine.Machine.took.Goals as goal

pub invariant_of-self : goal.invariant_of-self
invariant_of-self c = let m = c.self.inside in kept_took c.args.count m.teller c.took.new.self m.relays m.tallies m.deadlines.items m.own c.took.ensures.ledger c.took.ensures.taken c.took.ensures.told c.self.invariant
