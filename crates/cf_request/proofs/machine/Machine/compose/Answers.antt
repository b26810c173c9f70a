use Rattle.std.proofs.Common.{◌+◌, ◌≡◌, ◌∙◌, ◌∷◌, ◌++◌, [], ℕ, List, ap, arith, refl, subst}
use Rattle.std.specs.Prelude.{vec_capacity}
use Rattle.std.specs.VecDeque.{deque_capacity}
use Rattle.cf_ledger.specs.Ledgers.{stages_of, state_of}
use Rattle.cf_model.specs.declared.events.Event.{Event}
use Rattle.cf_request.specs.Composing.{Composes, composes}
use Rattle.cf_request.specs.Machines.{Machine}
use Rattle.cf_request.specs.Rows.{AreCalls, nothing}
use Rattle.cf_request.specs.Telling.{Teller}
use Rattle.cf_request.proofs.Attached.{AttachesRow, calls_attach, kept_attach}
use Rattle.cf_request.proofs.Composes.{composes_are, row_composes}
use Rattle.cf_request.proofs.Fits.{four, kept_same}
use Rattle.cf_request.proofs.Tallied.{stays_attaches, stays_memory, stays_then, tallied_later}
use Rattle.cf_request.proofs.machine.Machine.compose.Goals as goal

-- what is attached, and nothing else is done
row : (c : goal.After-compose) → AttachesRow (composes c.args.who c.args.how c.args.source c.args.function) c.reserve.new.self c.compose.new.teller
row c =
    let room = c.in_ok-check_composing.ensures.may.room in
    let same = ap (λ (t : Teller). (state_of t.ledger).plan.room) c.in_ok-reserve.ensures.found in
    row_composes c.args.who c.args.how c.args.source c.args.function c.args.lane c.reserve.new.self c.compose.new.teller (omega (arith, room, same)) c.compose.ensures.tells

pub invariant_of-self-2 : goal.invariant_of-self-2
invariant_of-self-2 c =
    let m = c.self.inside in
    four (kept_attach _ m.teller c.reserve.new.self c.compose.new.teller _ m.relays.follows.items m.deadlines.items m.own m.relays.followed m.relays.waiting c.in_ok-reserve.ensures.found (row c) c.self.invariant.0 c.self.invariant.1 c.self.invariant.2)
    (tallied_later m.relays.follows.items m.relays.followed m.tallies m.teller c.compose.new.teller (stays_then m.teller c.reserve.new.self c.compose.new.teller (stays_memory _ m.teller c.reserve.new.self c.in_ok-reserve.ensures.found)
    (stays_attaches c.args.lane (composes c.args.who c.args.how c.args.source c.args.function) c.reserve.new.self c.compose.new.teller c.compose.ensures.tells)) c.self.invariant.3)

pub returns-clause-done : goal.returns-clause-done
returns-clause-done c =
    let m = c.self.inside in
    let new : Machine = record { teller = c.compose.new.teller; follows = m.relays.follows.items; deadlines = m.deadlines.items; moment = m.moment; own = m.own; relay_places = vec_capacity m.relays.follows; deadline_places = deque_capacity m.deadlines } in
    let most = c.self.invariant.2.most in
    let few = c.self.invariant.2.few in
    let same = ap (λ (t : Teller). stages_of t.ledger) c.in_ok-reserve.ensures.found in
    subst (λ (old : Machine). Composes c.args.who c.args.how c.args.source c.args.function c.args.lane old c.compose.result new) c.self.view_is
    (record {
      found = c.reserve.new.self;
      finds = record { words = 2 + m.relays.waiting; enough = omega (arith, most); few = omega (arith, few); is = c.in_ok-reserve.ensures.found };
      tells = c.compose.ensures.tells;
      relay = c.compose.ensures.relay ∙ same;
      stage = c.compose.ensures.stage ∙ ap (λ (n : ℕ). n + 1) same;
      same = refl;
    })

pub returns-clause-written : goal.returns-clause-written
returns-clause-written c =
    let events : List Event → Machine → Type 0 = λ es m. es ≡ m.teller.ledger.events ++ composes c.args.who c.args.how c.args.source c.args.function in
    let was = ap (λ (t : Teller). t.ledger.events) c.in_ok-reserve.ensures.found in
    subst (events c.compose.new.teller.ledger.events) c.self.view_is
    ((row c).events_are ∙ ap (λ (es : List Event). es ++ composes c.args.who c.args.how c.args.source c.args.function) was)

pub returns-clause-calls : goal.returns-clause-calls
returns-clause-calls c =
    let m = c.self.inside in
    let first : Machine = record { teller = m.teller; follows = m.relays.follows.items; deadlines = m.deadlines.items; moment = m.moment; own = m.own; relay_places = vec_capacity m.relays.follows; deadline_places = deque_capacity m.deadlines } in
    let most = c.self.invariant.2.most in
    let enough = c.in_ok-reserve.ensures.enough in
    subst (λ (old : Machine). AreCalls old (nothing ∷ nothing ∷ nothing ∷ []) (record first { teller = c.compose.new.teller })) c.self.view_is
    (calls_attach c.args.lane (composes c.args.who c.args.how c.args.source c.args.function) first c.reserve.new.self c.compose.new.teller (2 + m.relays.waiting)
    (composes_are c.args.who c.args.how c.args.source c.args.function) c.in_ok-reserve.ensures.found (omega (arith, most, enough)) c.in_ok-check_composing.ensures.may.room
    c.self.invariant.0.relays c.self.invariant.1 c.compose.ensures.tells)

pub invariant_of-self : goal.invariant_of-self
invariant_of-self c = let m = c.self.inside in kept_same m.teller c.reserve.new.self m.relays m.tallies m.deadlines.items m.own c.in_err-reserve.ensures.refused c.self.invariant
