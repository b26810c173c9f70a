use Rattle.std.proofs.Common.{arith, subst}
use Rattle.std.specs.Prelude.{vec_capacity}
use Rattle.std.specs.VecDeque.{deque_capacity}
use Rattle.cf_request.specs.Machines.{CancelsAll, Machine}
use Rattle.cf_request.specs.Refusals.{IsCancelled}
use Rattle.cf_request.specs.Relays.{IsRelayOr}
use Rattle.cf_request.proofs.Machines.{cancels_is, kept_rest, none_found}
use Rattle.cf_request.proofs.Fits.{four, kept_memory_found, kept_same}
use Rattle.cf_request.proofs.Tallied.{stays_dues, stays_memory, stays_then, tallied_later}
use Rattle.cf_request.proofs.machine.Machine.cancel_all.Goals as goal

pub end_all-requires-clause-marked : goal.end_all-requires-clause-marked
end_all-requires-clause-marked c = c.self.invariant.2.marked

pub end_all-requires-clause-none_behind : goal.end_all-requires-clause-none_behind
end_all-requires-clause-none_behind c = let m = c.self.inside in none_found _ m.teller c.reserve.new.self m.relays.follows.items c.in_ok-reserve.ensures.found c.self.invariant.1

pub invariant_of-self-2 : goal.invariant_of-self-2
invariant_of-self-2 c =
    let m = c.self.inside in
    four (kept_rest (IsRelayOr m.relays.follows.items IsCancelled) c.args.who _ m.teller c.reserve.new.self c.end_all.new.teller m.relays m.deadlines.items m.own c.in_ok-reserve.ensures.found c.end_all.ensures.settles c.self.invariant.0 c.self.invariant.2 c.end_all.ensures.behind)
    (tallied_later m.relays.follows.items m.relays.followed m.tallies m.teller c.end_all.new.teller (stays_then m.teller c.reserve.new.self c.end_all.new.teller (stays_memory _ m.teller c.reserve.new.self c.in_ok-reserve.ensures.found)
    (stays_dues (IsRelayOr m.relays.follows.items IsCancelled) c.args.who c.reserve.new.self c.end_all.new.teller c.end_all.ensures.settles)) c.self.invariant.3)

pub returns-clause-cancels : goal.returns-clause-cancels
returns-clause-cancels c =
    let m = c.self.inside in
    let old : Machine = record { teller = m.teller; follows = m.relays.follows.items; deadlines = m.deadlines.items; moment = m.moment; own = m.own; relay_places = vec_capacity m.relays.follows; deadline_places = deque_capacity m.deadlines } in
    subst (λ (x : Machine). CancelsAll c.args.who x (record old { teller = c.end_all.new.teller })) c.self.view_is
    (cancels_is old c.reserve.new.self c.end_all.new.teller c.args.who c.open_stages.result c.open_stages.ensures c.in_ok-reserve.ensures.found (omega arith)
    c.end_all.ensures.none c.end_all.ensures.settles)

pub invariant_of-self : goal.invariant_of-self
invariant_of-self c = let m = c.self.inside in kept_same m.teller c.reserve.new.self m.relays m.tallies m.deadlines.items m.own c.in_err-reserve.ensures.refused c.self.invariant

pub invariant_of-self-then-who-gt-LAST_CALLER : goal.invariant_of-self-then-who-gt-LAST_CALLER
invariant_of-self-then-who-gt-LAST_CALLER c = let m = c.self.inside in kept_memory_found _ m.teller c.reserve.new.self m.relays m.tallies m.deadlines.items m.own c.in_ok-reserve.ensures.found c.self.invariant
