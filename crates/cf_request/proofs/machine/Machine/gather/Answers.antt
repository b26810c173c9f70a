use Rattle.std.proofs.Common.{◌+◌, ◌≡◌, ◌∙◌, ◌∷◌, ◌++◌, ℕ, List, ap, arith, refl, replicate, subst}
use Rattle.std.specs.Prelude.{vec_capacity}
use Rattle.std.specs.VecDeque.{deque_capacity}
use Rattle.cf_ledger.specs.Ledgers.{stages_of, state_of}
use Rattle.cf_request.specs.Attaching.{TellsAttaches}
use Rattle.cf_request.specs.Gathering.{Gathers, gathers, stages_for}
use Rattle.cf_model.specs.declared.events.Event.{Event}
use Rattle.cf_request.specs.Machines.{Machine, stages_in}
use Rattle.cf_request.specs.Rows.{AreCalls, nothing}
use Rattle.cf_request.specs.Telling.{Teller}
use Rattle.cf_request.proofs.Attached.{AttachesRow, kept_attach}
use Rattle.cf_request.proofs.Gathered.{calls_gather, row_gathers}
use Rattle.cf_request.proofs.Fits.{four, kept_same}
use Rattle.cf_request.proofs.Tallied.{stays_attaches, stays_memory, stays_then, tallied_later}
use Rattle.cf_request.proofs.machine.Machine.gather.Goals as goal

-- what is attached, and nothing else is done
row : (c : goal.After-gather) → AttachesRow (gathers c.args.who c.args.how (stages_of c.reserve.new.self.ledger) c.args.sources.now) c.reserve.new.self c.gather.new.teller
row c =
    let room = c.in_ok-count.ensures.may.room in
    let same = ap (λ (t : Teller). (state_of t.ledger).plan.room) c.in_ok-reserve.ensures.found in
    row_gathers c.args.who c.args.how (stages_of c.reserve.new.self.ledger) c.args.sources.now c.reserve.new.self c.gather.new.teller (omega (arith, room, same)) c.gather.ensures.tells

pub invariant_of-self-2 : goal.invariant_of-self-2
invariant_of-self-2 c =
    let m = c.self.inside in
    four (kept_attach _ m.teller c.reserve.new.self c.gather.new.teller _ m.relays.follows.items m.deadlines.items m.own m.relays.followed m.relays.waiting c.in_ok-reserve.ensures.found (row c) c.self.invariant.0 c.self.invariant.1 c.self.invariant.2)
    (tallied_later m.relays.follows.items m.relays.followed m.tallies m.teller c.gather.new.teller (stays_then m.teller c.reserve.new.self c.gather.new.teller (stays_memory _ m.teller c.reserve.new.self c.in_ok-reserve.ensures.found)
    (stays_attaches 0 (gathers c.args.who c.args.how (stages_of c.reserve.new.self.ledger) c.args.sources.now) c.reserve.new.self c.gather.new.teller c.gather.ensures.tells)) c.self.invariant.3)

pub returns-clause-done : goal.returns-clause-done
returns-clause-done c =
    let m = c.self.inside in
    let new : Machine = record { teller = c.gather.new.teller; follows = m.relays.follows.items; deadlines = m.deadlines.items; moment = m.moment; own = m.own; relay_places = vec_capacity m.relays.follows; deadline_places = deque_capacity m.deadlines } in
    let most = c.self.invariant.2.most in
    let few = c.self.invariant.2.few in
    let count = c.in_ok-count.ensures.count in
    let same = ap (λ (t : Teller). stages_of t.ledger) c.in_ok-reserve.ensures.found in
    subst (λ (old : Machine). Gathers c.args.who c.args.how c.args.sources.now old c.gather.result new) c.self.view_is
    (record {
      may = c.in_ok-count.ensures.may;
      found = c.reserve.new.self;
      finds = record { words = c.in_ok-count.count + m.relays.waiting; enough = omega (arith, most, count); few = omega (arith, few, count); is = c.in_ok-reserve.ensures.found };
      tells = subst (λ (n : ℕ). TellsAttaches 0 (gathers c.args.who c.args.how n c.args.sources.now) c.reserve.new.self c.gather.new.teller) same c.gather.ensures.tells;
      is_root = c.gather.ensures.root;
      same = refl;
    })

pub returns-clause-written : goal.returns-clause-written
returns-clause-written c =
    let n = stages_of c.self.inside.teller.ledger in
    let events : List Event → Machine → Type 0 = λ es m. es ≡ m.teller.ledger.events ++ gathers c.args.who c.args.how (stages_in m) c.args.sources.now in
    let same = ap (λ (t : Teller). stages_of t.ledger) c.in_ok-reserve.ensures.found in
    let was = ap (λ (t : Teller). t.ledger.events) c.in_ok-reserve.ensures.found in
    subst (events c.gather.new.teller.ledger.events) c.self.view_is
    ((row c).events_are ∙ ap (λ (k : ℕ). c.reserve.new.self.ledger.events ++ gathers c.args.who c.args.how k c.args.sources.now) same ∙ ap (λ (es : List Event). es ++ gathers c.args.who c.args.how n c.args.sources.now) was)

pub returns-clause-calls : goal.returns-clause-calls
returns-clause-calls c =
    let m = c.self.inside in
    let first : Machine = record { teller = m.teller; follows = m.relays.follows.items; deadlines = m.deadlines.items; moment = m.moment; own = m.own; relay_places = vec_capacity m.relays.follows; deadline_places = deque_capacity m.deadlines } in
    let most = c.self.invariant.2.most in
    let count = c.in_ok-count.ensures.count in
    let enough = c.in_ok-reserve.ensures.enough in
    let same = ap (λ (t : Teller). stages_of t.ledger) c.in_ok-reserve.ensures.found in
    subst (λ (old : Machine). AreCalls old (nothing ∷ replicate (stages_for c.args.sources.now) nothing) (record first { teller = c.gather.new.teller })) c.self.view_is
    (calls_gather c.args.who c.args.how c.args.sources.now first c.reserve.new.self c.gather.new.teller (c.in_ok-count.count + m.relays.waiting) c.in_ok-reserve.ensures.found (omega (arith, most, count, enough)) c.in_ok-count.ensures.may.room
    c.self.invariant.0.relays c.self.invariant.1 (subst (λ (n : ℕ). TellsAttaches 0 (gathers c.args.who c.args.how n c.args.sources.now) c.reserve.new.self c.gather.new.teller) same c.gather.ensures.tells))

pub invariant_of-self : goal.invariant_of-self
invariant_of-self c = let m = c.self.inside in kept_same m.teller c.reserve.new.self m.relays m.tallies m.deadlines.items m.own c.in_err-reserve.ensures.refused c.self.invariant
