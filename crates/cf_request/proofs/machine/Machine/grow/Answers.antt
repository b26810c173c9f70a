use Rattle.std.proofs.Common.{ap}
use Rattle.cf_request.specs.Telling.{order_in}
use Rattle.cf_request.proofs.Found.{kept_roomier}
use Rattle.cf_request.proofs.Fits.{four, kept_same, three}
use Rattle.cf_request.proofs.Tallied.{stays_roomier, tallied_later}
use Rattle.cf_request.proofs.machine.Machine.grow.Goals as goal

pub invariant_of-self-2 : goal.invariant_of-self-2
invariant_of-self-2 c =
    let m = c.self.inside in
    four (kept_roomier c.in-Some.more m.teller c.grow.new.self m.relays m.deadlines.items m.own c.in_ok-grow.ensures.state (three c.self.invariant))
    (tallied_later m.relays.follows.items m.relays.followed m.tallies m.teller c.grow.new.self (stays_roomier c.in-Some.more m.teller c.grow.new.self (ap order_in c.in_ok-grow.ensures.grown) c.in_ok-grow.ensures.state) c.self.invariant.3)

pub invariant_of-self : goal.invariant_of-self
invariant_of-self c = let m = c.self.inside in kept_same m.teller c.grow.new.self m.relays m.tallies m.deadlines.items m.own c.in_err-grow.ensures.refused c.self.invariant
