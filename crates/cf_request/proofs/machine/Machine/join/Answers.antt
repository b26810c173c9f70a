use Rattle.std.proofs.Common.{◌∙◌, ◌∷◌, ◌++◌, [], ◌+◌, ℕ, List, ap, arith, refl, subst}
use Rattle.std.specs.Prelude.{vec_capacity}
use Rattle.std.specs.VecDeque.{deque_capacity}
use Rattle.cf_ledger.specs.Ledgers.{stages_of, state_of}
use Rattle.cf_request.specs.Joins.{IsJoin}
use Rattle.cf_request.specs.Machines.{Machine, SetsJoin}
use Rattle.cf_request.specs.Relays.{IsRelayDue}
use Rattle.cf_request.specs.Tallies.{TalliesFit}
use Rattle.cf_request.specs.Telling.{Teller}
use Rattle.cf_request.specs.declared.joins.Join.{Join}
use Rattle.cf_request.proofs.Found.{kept_reserved}
use Rattle.cf_request.proofs.Machines.{behind_if, kept_all, kept_found, kept_place, may_join}
use Rattle.cf_request.proofs.Fits.{fit_found, fit_reserved, fit_rows, four, three}
use Rattle.cf_request.proofs.Tallied.{stays_dues, tallied_later}
use Rattle.cf_request.proofs.machine.Machine.join.Goals as goal

pub invariant_of-self : goal.invariant_of-self
invariant_of-self c =
    let m = c.self.inside in
    four (kept_reserved c.reserve.result _ m.teller c.reserve.new.self m.relays m.deadlines.items m.own c.reserve.ensures.found c.reserve.ensures.refused (three c.self.invariant))
    (fit_reserved c.reserve.result _ m.teller c.reserve.new.self m.relays.follows.items m.relays.followed m.tallies c.reserve.ensures.found c.reserve.ensures.refused c.self.invariant.3)

pub invariant_of-self-in_err-check_join : goal.invariant_of-self-in_err-check_join
invariant_of-self-in_err-check_join c =
    let m = c.self.inside in
    four (kept_found _ m.teller c.reserve.new.self m.relays m.deadlines.items m.own c.in_ok-reserve.ensures.found (three c.self.invariant)) (fit_found _ m.teller c.reserve.new.self m.relays.follows.items m.relays.followed m.tallies c.in_ok-reserve.ensures.found c.self.invariant.3)

pub invariant_of-self-in_err-reserve-2 : goal.invariant_of-self-in_err-reserve-2
invariant_of-self-in_err-reserve-2 c =
    let m = c.self.inside in
    four (kept_place _ m.teller c.reserve.new.self m.relays c.reserve-2.new.self.items m.deadlines.items m.own c.in_ok-reserve.ensures.found c.reserve-2.ensures.items (three c.self.invariant))
    (fit_rows c.reserve.new.self m.relays.follows.items c.reserve-2.new.self.items m.relays.followed m.tallies c.reserve-2.ensures.items (fit_found _ m.teller c.reserve.new.self m.relays.follows.items m.relays.followed m.tallies c.in_ok-reserve.ensures.found c.self.invariant.3))

pub tally-requires-clause-flags : goal.tally-requires-clause-flags
tally-requires-clause-flags c = c.self.invariant.2.flags

pub tally-requires-clause-within : goal.tally-requires-clause-within
tally-requires-clause-within c = let m = c.self.inside in (fit_found _ m.teller c.reserve.new.self m.relays.follows.items m.relays.followed m.tallies c.in_ok-reserve.ensures.found c.self.invariant.3).within

pub tally-requires-clause-led : goal.tally-requires-clause-led
tally-requires-clause-led c = c.self.invariant.3.led

pub tally-requires-clause-there : goal.tally-requires-clause-there
tally-requires-clause-there c = λ k d l.
    let there = c.in_ok-check_join.ensures.may.sources k d l in
    let few = c.in_ok-check_join.ensures.few in
    omega (arith, there, few)

pub catch_up_with-self-inside-requires-clause-may : goal.catch_up_with-self-inside-requires-clause-may
catch_up_with-self-inside-requires-clause-may c =
    let m = c.self.inside in
    (may_join _ m.teller c.reserve.new.self m.relays (record m.relays { follows = c.push_reserved.new.self; followed = c.tally.new.followed; waiting = m.relays.waiting + 1 }) m.deadlines.items m.own c.args.join c.is_some-is_due.result
    (c.push_reserved.ensures.items ∙ ap (λ (l : List Join). l ++ c.args.join ∷ []) c.in_ok-reserve-2.ensures.items) c.tally.ensures.marks refl
    c.self.invariant.0 c.self.invariant.1 c.self.invariant.2 c.in_ok-reserve.ensures.found c.in_ok-reserve.ensures.enough c.in_ok-check_join.ensures.may
    (behind_if c.due_by.result c.is_some-is_due.result _ c.due_by.ensures.none c.is_some-is_due.ensures)).may

pub invariant_of-self-2 : goal.invariant_of-self-2
invariant_of-self-2 c =
    let m = c.self.inside in
    let r = c.reserve.new.self in
    let given = (may_join _ m.teller r m.relays (record m.relays { follows = c.push_reserved.new.self; followed = c.tally.new.followed; waiting = m.relays.waiting + 1 }) m.deadlines.items m.own c.args.join c.is_some-is_due.result
    (c.push_reserved.ensures.items ∙ ap (λ (l : List Join). l ++ c.args.join ∷ []) c.in_ok-reserve-2.ensures.items) c.tally.ensures.marks refl
    c.self.invariant.0 c.self.invariant.1 c.self.invariant.2 c.in_ok-reserve.ensures.found c.in_ok-reserve.ensures.enough c.in_ok-check_join.ensures.may
    (behind_if c.due_by.result c.is_some-is_due.result _ c.due_by.ensures.none c.is_some-is_due.ensures)) in
    let fit : TalliesFit (m.relays.follows.items ++ c.args.join ∷ []) c.tally.new.followed c.tally.new.tallies r = c.tally.ensures.tallied m.relays.follows.items c.self.invariant.2.marked (fit_found _ m.teller r m.relays.follows.items m.relays.followed m.tallies c.in_ok-reserve.ensures.found c.self.invariant.3) in
    four (kept_all m.own r c.catch_up_with-self-inside.new.teller (record m.relays { follows = c.push_reserved.new.self; followed = c.tally.new.followed; waiting = m.relays.waiting + 1 }) m.deadlines.items c.catch_up_with-self-inside.result (state_of r.ledger).stages
    c.catch_up_with-self-inside.ensures.settled given.machine given.relays c.catch_up_with-self-inside.ensures.counted c.catch_up_with-self-inside.ensures.fewer)
    (tallied_later c.push_reserved.new.self.items c.tally.new.followed c.tally.new.tallies r c.catch_up_with-self-inside.new.teller (stays_dues (IsRelayDue c.push_reserved.new.self.items) m.own r c.catch_up_with-self-inside.new.teller c.catch_up_with-self-inside.ensures.settled.settles)
    (fit_rows r (m.relays.follows.items ++ c.args.join ∷ []) c.push_reserved.new.self.items c.tally.new.followed c.tally.new.tallies (c.push_reserved.ensures.items ∙ ap (λ (l : List Join). l ++ c.args.join ∷ []) c.in_ok-reserve-2.ensures.items) fit))

pub returns-clause-set : goal.returns-clause-set
returns-clause-set c =
    let m = c.self.inside in
    let r = c.reserve.new.self in
    let most = c.self.invariant.2.most in
    let few = c.self.invariant.2.few in
    let same = ap (λ (t : Teller). stages_of t.ledger) c.in_ok-reserve.ensures.found in
    let new : Machine = record { teller = c.catch_up_with-self-inside.new.teller; follows = c.push_reserved.new.self.items; deadlines = m.deadlines.items; moment = m.moment; own = m.own; relay_places = vec_capacity c.push_reserved.new.self; deadline_places = deque_capacity m.deadlines } in
    subst (λ (old : Machine). SetsJoin c.args.join old new) c.self.view_is
    (record {
      there = subst (λ (n : ℕ). IsJoin n c.args.join) same c.in_ok-check_join.ensures.may;
      set = c.push_reserved.ensures.items ∙ ap (λ (l : List Join). l ++ c.args.join ∷ []) c.in_ok-reserve-2.ensures.items;
      fits = omega (arith, c.push_reserved.new.self.ok);
      places = omega (arith, c.push_reserved.ensures.capacity, c.in_ok-reserve-2.ensures.capacity);
      found = r;
      finds = record { words = 1 + m.relays.waiting; enough = omega (arith, most); few = omega (arith, few); is = c.in_ok-reserve.ensures.found };
      catches_up = c.catch_up_with-self-inside.ensures.settled;
      same = refl;
    })
