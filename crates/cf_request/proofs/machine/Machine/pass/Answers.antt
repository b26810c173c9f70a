use Rattle.std.proofs.Common.{◌+◌, ℕ, ap, arith, length-take, subst, take}
use Rattle.std.specs.Prelude.{vec_capacity}
use Rattle.std.specs.VecDeque.{deque_capacity}
use Rattle.cf_ledger.specs.Ledgers.{state_of}
use Rattle.cf_request.specs.Deadlines.{IsOverdue}
use Rattle.cf_request.specs.Machines.{FindsToPass, Machine, Passes}
use Rattle.cf_request.specs.Relays.{IsRelayOr}
use Rattle.cf_request.proofs.Machines.{kept_left, kept_rest, none_found, relays_later}
use Rattle.cf_request.proofs.Memory.{few_limits}
use Rattle.cf_request.proofs.Turns.{keeps_memory}
use Rattle.cf_request.proofs.Tallied.{stays_dues, stays_memory, stays_then, tallied_later}
use Rattle.cf_request.proofs.Fits.{kept_memory_found, kept_same}
use Rattle.cf_request.proofs.machine.Machine.pass.Goals as goal

pub pass-requires-clause-marked : goal.pass-requires-clause-marked
pass-requires-clause-marked c = c.self.invariant.2.marked

pub pass-requires-clause-behind : goal.pass-requires-clause-behind
pass-requires-clause-behind c = let m = c.self.inside in none_found _ m.teller c.reserve.new.self m.relays.follows.items c.in_ok-reserve.ensures.found c.self.invariant.1

pub pass-requires-clause-later : goal.pass-requires-clause-later
pass-requires-clause-later c = c.come_by-come.ensures.behind

pub pass-requires-clause-memory : goal.pass-requires-clause-memory
pass-requires-clause-memory c =
    let m = c.self.inside in
    let r = c.reserve.new.self in
    let stages = (state_of r.ledger).stages in
    let first = relays_later (state_of m.teller.ledger).stages stages m.relays.follows.items m.relays.followed m.relays.waiting (keeps_memory _ m.teller r c.in_ok-reserve.ensures.found).settled c.self.invariant.2 in
    let most = first.most in
    let limits = few_limits stages (take c.come_by-come.result m.deadlines.items) in
    let size = length-take c.come_by-come.result m.deadlines.items in
    let enough = c.in_ok-reserve.ensures.enough in
    omega (arith, most, limits, size, enough)

pub invariant_of-self-2 : goal.invariant_of-self-2
invariant_of-self-2 c =
    let m = c.self.inside in
    let kept = kept_rest (IsRelayOr m.relays.follows.items (IsOverdue c.args.moment m.deadlines.items)) m.own _ m.teller c.reserve.new.self c.pass.new.teller m.relays m.deadlines.items m.own c.in_ok-reserve.ensures.found c.pass.ensures.settles c.self.invariant.0 c.self.invariant.2 c.pass.ensures.none.0 in (
      kept_left c.pass.new.teller m.relays.follows.items m.deadlines.items c.pass.new.deadlines.items m.own kept.0 c.pass.ensures.forgets,
      kept.1,
      kept.2,
      tallied_later m.relays.follows.items m.relays.followed m.tallies m.teller c.pass.new.teller (stays_then m.teller c.reserve.new.self c.pass.new.teller (stays_memory _ m.teller c.reserve.new.self c.in_ok-reserve.ensures.found)
          (stays_dues (IsRelayOr m.relays.follows.items (IsOverdue c.args.moment m.deadlines.items)) m.own c.reserve.new.self c.pass.new.teller c.pass.ensures.settles)) c.self.invariant.3,
    )

pub returns-clause-passes : goal.returns-clause-passes
returns-clause-passes c =
    let m = c.self.inside in
    let r = c.reserve.new.self in
    let e = c.pass.new.teller in
    let most = c.self.invariant.2.most in
    let few = c.self.invariant.2.few in
    let limits = few_limits (state_of m.teller.ledger).stages (take c.come_by-come.result m.deadlines.items) in
    let size = length-take c.come_by-come.result m.deadlines.items in
    let new : Machine = record { teller = e; follows = m.relays.follows.items; deadlines = c.pass.new.deadlines.items; moment = c.args.moment; own = m.own; relay_places = vec_capacity m.relays.follows; deadline_places = deque_capacity c.pass.new.deadlines } in
    subst (λ (old : Machine). Passes c.args.moment old new) c.self.view_is
    (record {
      onward = omega arith;
      come = c.come_by-come.result;
      are_come = c.come_by-come.ensures;
      found = r;
      finds = record { words = m.relays.waiting + c.come_by-come.result; enough = omega (arith, most, limits, size); few = omega (arith, few); is = c.in_ok-reserve.ensures.found };
      settles = c.pass.ensures.settles;
      none = c.pass.ensures.none;
      forgets = c.pass.ensures.forgets;
      same = ap (λ (k : ℕ). let x : Machine = record new { deadline_places = k } in x) c.pass.ensures.places;
    })

pub returns-then-moment-self-clause-found : goal.returns-then-moment-self-clause-found
returns-then-moment-self-clause-found c is =
    let m = c.self.inside in
    let r = c.reserve.new.self in
    let most = c.self.invariant.2.most in
    let limits = few_limits (state_of m.teller.ledger).stages (take c.come_by-come.result m.deadlines.items) in
    let size = length-take c.come_by-come.result m.deadlines.items in
    let enough = c.in_ok-reserve.ensures.enough in
    let new : Machine = record { teller = r; follows = m.relays.follows.items; deadlines = m.deadlines.items; moment = m.moment; own = m.own; relay_places = vec_capacity m.relays.follows; deadline_places = deque_capacity m.deadlines } in
    subst (λ (old : Machine). FindsToPass c.args.moment old new) c.self.view_is
    (record { come = c.come_by-come.result; are_come = c.come_by-come.ensures; enough = omega (arith, most, limits, size, enough) })

pub invariant_of-self : goal.invariant_of-self
invariant_of-self c = let m = c.self.inside in kept_same m.teller c.reserve.new.self m.relays m.tallies m.deadlines.items m.own c.in_err-reserve.ensures.refused c.self.invariant

pub invariant_of-self-then-moment-self : goal.invariant_of-self-then-moment-self
invariant_of-self-then-moment-self c = let m = c.self.inside in kept_memory_found _ m.teller c.reserve.new.self m.relays m.tallies m.deadlines.items m.own c.in_ok-reserve.ensures.found c.self.invariant
