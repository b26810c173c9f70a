use Rattle.cf_request.proofs.Machines.{kept_left}
use Rattle.cf_request.proofs.machine.Machine.next_deadline.Goals as goal

pub invariant_of-self : goal.invariant_of-self
invariant_of-self c =
    let m = c.self.inside in
    (kept_left m.teller m.relays.follows.items m.deadlines.items c.next_open.new.deadlines.items m.own c.self.invariant.0 c.next_open.ensures.forgets, c.self.invariant.1, c.self.invariant.2, c.self.invariant.3)

pub invariant_of-self-2 : goal.invariant_of-self-2
invariant_of-self-2 c =
    let m = c.self.inside in
    (kept_left m.teller m.relays.follows.items m.deadlines.items c.next_open.new.deadlines.items m.own c.self.invariant.0 c.next_open.ensures.forgets, c.self.invariant.1, c.self.invariant.2, c.self.invariant.3)
