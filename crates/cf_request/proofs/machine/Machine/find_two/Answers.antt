use Rattle.std.proofs.Common.{◌+◌, ap, arith, length, subst}
use Rattle.cf_ledger.specs.Ledgers.{state_of}
use Rattle.cf_request.specs.Machines.{FindsFor, Machine}
use Rattle.cf_request.specs.Relays.{waiting_of}
use Rattle.cf_request.specs.Telling.{Teller}
use Rattle.cf_request.proofs.Fits.{kept_memory_found, kept_same}
use Rattle.cf_request.proofs.machine.Machine.find_two.Goals as goal

pub returns-clause-finds : goal.returns-clause-finds
returns-clause-finds c =
    let m = c.self.inside in
    let most = c.self.invariant.2.most in
    let few = c.self.invariant.2.few in
    subst (λ (old : Machine). FindsFor 2 old c.reserve.new.self) c.self.view_is
    (record { words = 2 + m.relays.waiting; enough = omega (arith, most); few = omega (arith, few); is = c.in_ok-reserve.ensures.found })

pub returns-clause-enough : goal.returns-clause-enough
returns-clause-enough c =
    let m = c.self.inside in
    let most = c.self.invariant.2.most in
    let waits = ap (λ (t : Teller). length (waiting_of (state_of t.ledger).stages m.relays.follows.items)) c.in_ok-reserve.ensures.found in
    omega (arith, most, waits, c.in_ok-reserve.ensures.enough)

pub invariant_of-self : goal.invariant_of-self
invariant_of-self c = let m = c.self.inside in kept_same m.teller c.reserve.new.self m.relays m.tallies m.deadlines.items m.own c.in_err-reserve.ensures.refused c.self.invariant

pub invariant_of-self-2 : goal.invariant_of-self-2
invariant_of-self-2 c = let m = c.self.inside in kept_memory_found _ m.teller c.reserve.new.self m.relays m.tallies m.deadlines.items m.own c.in_ok-reserve.ensures.found c.self.invariant
