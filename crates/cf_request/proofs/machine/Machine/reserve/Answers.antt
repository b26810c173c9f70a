use Rattle.cf_request.proofs.Found.{kept_reserved}
use Rattle.cf_request.proofs.Fits.{fit_reserved, four, three}
use Rattle.cf_request.proofs.machine.Machine.reserve.Goals as goal

pub invariant_of-self : goal.invariant_of-self
invariant_of-self c =
    let m = c.self.inside in
    four (kept_reserved c.reserve.result _ m.teller c.reserve.new.self m.relays m.deadlines.items m.own c.reserve.ensures.found c.reserve.ensures.refused (three c.self.invariant))
    (fit_reserved c.reserve.result _ m.teller c.reserve.new.self m.relays.follows.items m.relays.followed m.tallies c.reserve.ensures.found c.reserve.ensures.refused c.self.invariant.3)
