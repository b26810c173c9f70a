use Rattle.std.proofs.Common.{subst}
use Rattle.std.specs.Prelude.{None, vec_capacity}
use Rattle.std.specs.VecDeque.{deque_capacity}
use Rattle.cf_request.specs.Lanes.{NothingIsReady}
use Rattle.cf_request.specs.Machines.{GoesOn, Machine}
use Rattle.cf_request.proofs.Machines.{goes_idle, none_idle, none_left, ok_then}
use Rattle.cf_request.proofs.Rows.{fewer_left}
use Rattle.cf_request.proofs.machine.Machine.next.Goals as goal

pub returns-then-is_idle-clause-done : goal.returns-then-is_idle-clause-done
returns-then-is_idle-clause-done c =
    let m = c.self.inside in
    let old : Machine = record { teller = m.teller; follows = m.relays.follows.items; deadlines = m.deadlines.items; moment = m.moment; own = m.own; relay_places = vec_capacity m.relays.follows; deadline_places = deque_capacity m.deadlines } in
    subst (λ (x : Machine). GoesOn c.args.who c.args.lane c.args.held x (record { finish = None; taken = None }) x) c.self.view_is
    (goes_idle c.args.who c.args.lane c.args.held old (c.is_idle.ensures.0 c.if-is_idle.true) c.self.invariant.1)

pub returns-then-is_idle-clause-none : goal.returns-then-is_idle-clause-none
returns-then-is_idle-clause-none c =
    let m = c.self.inside in
    let old : Machine = record { teller = m.teller; follows = m.relays.follows.items; deadlines = m.deadlines.items; moment = m.moment; own = m.own; relay_places = vec_capacity m.relays.follows; deadline_places = deque_capacity m.deadlines } in
    subst (λ (x : Machine). NothingIsReady x.teller c.args.lane) c.self.view_is
    (none_idle c.args.lane c.args.held old.teller (c.is_idle.ensures.0 c.if-is_idle.true))

pub returns-clause-none : goal.returns-clause-none
returns-clause-none c = ok_then c.go_on.result _ _ c.go_on.ensures.done (λ next h. none_left _ _ _ _ _ next h)

pub returns-clause-fewer : goal.returns-clause-fewer
returns-clause-fewer c = ok_then c.go_on.result _ _ c.go_on.ensures.done (λ next h. fewer_left _ _ _ _ _ next h)
