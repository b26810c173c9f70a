use Rattle.std.proofs.Common.{None, subst, sym}
use Rattle.std.specs.Prelude.{vec_capacity}
use Rattle.std.specs.VecDeque.{deque_capacity}
use Rattle.cf_request.specs.Lanes.{IsIdle}
use Rattle.cf_request.specs.Machines.{GoesOn, Machine}
use Rattle.cf_request.proofs.Machines.{goes_idle}
use Rattle.cf_request.proofs.machine.Machine.rest.Goals as goal

pub returns : goal.returns
returns c =
    let m = c.self.inside in
    let old : Machine = record { teller = m.teller; follows = m.relays.follows.items; deadlines = m.deadlines.items; moment = m.moment; own = m.own; relay_places = vec_capacity m.relays.follows; deadline_places = deque_capacity m.deadlines } in
    subst (λ (x : Machine). GoesOn c.args.who c.args.lane None x (record { finish = None; taken = None }) x) c.self.view_is
    (goes_idle c.args.who c.args.lane None old (subst (λ (x : Machine). IsIdle c.args.lane None x.teller) (sym c.self.view_is) c.requires.idle) c.self.invariant.1)
