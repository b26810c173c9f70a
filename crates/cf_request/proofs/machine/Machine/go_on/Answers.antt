use Rattle.std.proofs.Common.{◌+◌, ◌<◌, ℕ, List, ap, arith, inr, length, refl, subst, sym}
use Rattle.std.specs.Prelude.{vec_capacity}
use Rattle.std.specs.VecDeque.{deque_capacity}
use Rattle.cf_ledger.specs.Ledgers.{state_of}
use Rattle.cf_request.specs.Lanes.{IsIdle}
use Rattle.cf_request.specs.Machines.{GoesOn, Machine}
use Rattle.cf_request.specs.Relays.{IsRelayDue}
use Rattle.cf_request.proofs.Machines.{keeps_held, keeps_takes, kept_all, kept_by, kept_finish, may_held, none_takes, relays_later}
use Rattle.cf_request.proofs.Turns.{keeps_dues, keeps_memory, lane_kept}
use Rattle.cf_request.proofs.Fits.{kept_memory_found, kept_same, noted_before, taken_held}
use Rattle.cf_request.proofs.Tallied.{stays_held, stays_memory, stays_takes, stays_then, tallied_later}
use Rattle.cf_request.proofs.machine.Machine.go_on.Goals as goal

pub catch_up-self-inside-requires-clause-may : goal.catch_up-self-inside-requires-clause-may
catch_up-self-inside-requires-clause-may c =
    let m = c.self.inside in
    (may_held _ m.teller c.reserve.new.self c.finish_held-finish.new.teller c.args.who c.args.held c.finish_held-finish.result m.relays m.deadlines.items m.own (length c.told-seen.result.now)
    c.self.invariant.0 c.self.invariant.1 c.self.invariant.2 c.in_ok-reserve.ensures.found (ap (λ (l : List ℕ). length l) c.told-seen.ensures.told) c.in_ok-reserve.ensures.enough c.finish_held-finish.ensures).0

pub catch_up-self-inside-requires-clause-tallied : goal.catch_up-self-inside-requires-clause-tallied
catch_up-self-inside-requires-clause-tallied c =
    let m = c.self.inside in
    let r = c.reserve.new.self in
    let b = c.finish_held-finish.new.teller in
    tallied_later m.relays.follows.items m.relays.followed m.tallies m.teller b (stays_then m.teller r b (stays_memory _ m.teller r c.in_ok-reserve.ensures.found) (stays_held c.args.who c.args.held r c.finish_held-finish.result b c.finish_held-finish.ensures)) c.self.invariant.3

pub catch_up-self-inside-requires-clause-noted : goal.catch_up-self-inside-requires-clause-noted
catch_up-self-inside-requires-clause-noted c =
    let m = c.self.inside in
    let r = c.reserve.new.self in
    let b = c.finish_held-finish.new.teller in
    noted_before _ m.teller r b m.tallies.noted (length c.told-seen.result.now) c.in_ok-reserve.ensures.found (taken_held c.args.who c.args.held r c.finish_held-finish.result b c.finish_held-finish.ensures) (ap (λ (l : List ℕ). length l) c.told-seen.ensures.told) c.self.invariant.3.within

pub take-taken-requires-clause-lane : goal.take-taken-requires-clause-lane
take-taken-requires-clause-lane c =
    let m = c.self.inside in
    let r = c.reserve.new.self in
    let b = c.finish_held-finish.new.teller in
    let d = c.catch_up-self-inside.new.teller in
    lane_kept b d c.args.lane (keeps_dues (IsRelayDue m.relays.follows.items) m.own b d c.catch_up-self-inside.ensures.settled.settles)
    (lane_kept r b c.args.lane (keeps_held c.args.who c.args.held r c.finish_held-finish.result b c.finish_held-finish.ensures)
    (lane_kept m.teller r c.args.lane (keeps_memory _ m.teller r c.in_ok-reserve.ensures.found) (subst (λ (x : Machine). c.args.lane < x.teller.lanes.count) (sym c.self.view_is) c.requires.lane)))

pub take-taken-requires-clause-memory : goal.take-taken-requires-clause-memory
take-taken-requires-clause-memory c =
    let m = c.self.inside in
    let enough = (may_held _ m.teller c.reserve.new.self c.finish_held-finish.new.teller c.args.who c.args.held c.finish_held-finish.result m.relays m.deadlines.items m.own (length c.told-seen.result.now)
    c.self.invariant.0 c.self.invariant.1 c.self.invariant.2 c.in_ok-reserve.ensures.found (ap (λ (l : List ℕ). length l) c.told-seen.ensures.told) c.in_ok-reserve.ensures.enough c.finish_held-finish.ensures).1 in
    let left = c.catch_up-self-inside.ensures.memory in
    omega (arith, enough, left)

pub invariant_of-self-2 : goal.invariant_of-self-2
invariant_of-self-2 c =
    let m = c.self.inside in
    let b = c.finish_held-finish.new.teller in
    let d = c.catch_up-self-inside.new.teller in
    let e = c.take-taken.new.teller in
    let takes = keeps_takes c.args.who c.args.lane d c.take-taken.result e c.take-taken.ensures in
    let kept = kept_all m.own b d m.relays m.deadlines.items c.catch_up-self-inside.result (state_of m.teller.ledger).stages c.catch_up-self-inside.ensures.settled
    (kept_finish _ m.teller c.reserve.new.self b c.args.who c.args.held c.finish_held-finish.result m.relays.follows.items m.deadlines.items m.own c.self.invariant.0 c.in_ok-reserve.ensures.found c.finish_held-finish.ensures)
    c.self.invariant.2 c.catch_up-self-inside.ensures.counted c.catch_up-self-inside.ensures.fewer in (
      kept_by d e m.relays.follows.items m.deadlines.items m.own takes kept.0,
      none_takes m.relays.follows.items c.args.who c.args.lane d c.take-taken.result e c.take-taken.ensures kept.1,
      relays_later (state_of d.ledger).stages (state_of e.ledger).stages m.relays.follows.items m.relays.followed c.catch_up-self-inside.result takes.settled kept.2,
      tallied_later m.relays.follows.items m.relays.followed c.catch_up-self-inside.new.tallies d e (stays_takes c.args.who c.args.lane d c.take-taken.result e c.take-taken.ensures) c.catch_up-self-inside.ensures.tallied,
    )

pub returns-clause-done : goal.returns-clause-done
returns-clause-done c =
    let m = c.self.inside in
    let b = c.finish_held-finish.new.teller in
    let d = c.catch_up-self-inside.new.teller in
    let e = c.take-taken.new.teller in
    let most = c.self.invariant.2.most in
    let few = c.self.invariant.2.few in
    let new : Machine = record { teller = e; follows = m.relays.follows.items; deadlines = m.deadlines.items; moment = m.moment; own = m.own; relay_places = vec_capacity m.relays.follows; deadline_places = deque_capacity m.deadlines } in
    subst (λ (old : Machine). GoesOn c.args.who c.args.lane c.args.held old (record { finish = c.finish_held-finish.result; taken = c.take-taken.result }) new) c.self.view_is
    (record {
      found = c.reserve.new.self;
      finds = inr (
        subst (λ (x : Machine). ¬ IsIdle c.args.lane c.args.held x.teller) (sym c.self.view_is) c.requires.busy,
        record { words = 2 + m.relays.waiting; enough = omega (arith, most); few = omega (arith, few); is = c.in_ok-reserve.ensures.found },
      );
      finished = b;
      finishes = c.finish_held-finish.ensures;
      between = d;
      catches_up = c.catch_up-self-inside.ensures.settled;
      takes = c.take-taken.ensures;
      same = refl;
    })

pub invariant_of-self : goal.invariant_of-self
invariant_of-self c = let m = c.self.inside in kept_same m.teller c.reserve.new.self m.relays m.tallies m.deadlines.items m.own c.in_err-reserve.ensures.refused c.self.invariant

pub invariant_of-self-in_err-check_held : goal.invariant_of-self-in_err-check_held
invariant_of-self-in_err-check_held c = let m = c.self.inside in kept_memory_found _ m.teller c.reserve.new.self m.relays m.tallies m.deadlines.items m.own c.in_ok-reserve.ensures.found c.self.invariant
