use Rattle.cf_request.proofs.Machines.{kept_place}
use Rattle.cf_request.proofs.Fits.{fit_found, fit_rows, four, kept_same, three}
use Rattle.cf_request.proofs.machine.Machine.find_place.Goals as goal

pub invariant_of-self-in_err-reserve-2 : goal.invariant_of-self-in_err-reserve-2
invariant_of-self-in_err-reserve-2 c =
    let m = c.self.inside in
    four (kept_place _ m.teller c.reserve.new.self m.relays c.reserve-2.new.self.items m.deadlines.items m.own c.in_ok-reserve.ensures.found c.reserve-2.ensures.items (three c.self.invariant))
    (fit_rows c.reserve.new.self m.relays.follows.items c.reserve-2.new.self.items m.relays.followed m.tallies c.reserve-2.ensures.items (fit_found _ m.teller c.reserve.new.self m.relays.follows.items m.relays.followed m.tallies c.in_ok-reserve.ensures.found c.self.invariant.3))

pub invariant_of-self-2 : goal.invariant_of-self-2
invariant_of-self-2 c =
    let m = c.self.inside in
    four (kept_place _ m.teller c.reserve.new.self m.relays c.reserve-2.new.self.items m.deadlines.items m.own c.in_ok-reserve.ensures.found c.reserve-2.ensures.items (three c.self.invariant))
    (fit_rows c.reserve.new.self m.relays.follows.items c.reserve-2.new.self.items m.relays.followed m.tallies c.reserve-2.ensures.items (fit_found _ m.teller c.reserve.new.self m.relays.follows.items m.relays.followed m.tallies c.in_ok-reserve.ensures.found c.self.invariant.3))

pub invariant_of-self : goal.invariant_of-self
invariant_of-self c = let m = c.self.inside in kept_same m.teller c.reserve.new.self m.relays m.tallies m.deadlines.items m.own c.in_err-reserve.ensures.refused c.self.invariant
