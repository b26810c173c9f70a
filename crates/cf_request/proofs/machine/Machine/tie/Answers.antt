use Rattle.std.proofs.Common.{◌≡◌, ◌+◌, ◌<◌, ◌≤◌, ◌∷◌, ◌++◌, [], true, false, arith, subst, sym}
use Rattle.std.specs.Prelude.{vec_capacity}
use Rattle.std.specs.VecDeque.{deque_capacity}
use Rattle.cf_ledger.specs.Ledgers.{stages_of, state_of}
use Rattle.cf_request.specs.Joins.{IsOfOne}
use Rattle.cf_request.specs.Machines.{Machine, free_in, stages_in, state_in, waiting_in}
use Rattle.cf_request.specs.Scopes.{PutsIn}
use Rattle.cf_request.specs.Telling.{is_settled_in}
use Rattle.cf_request.specs.declared.joins.Join.{Join}
use Rattle.cf_request.proofs.Ends.{not_behind, puts_tie, tie_is, tied}
use Rattle.cf_request.proofs.Fits.{fit_rows, four, three}
use Rattle.cf_request.proofs.machine.Machine.tie.Goals as goal

pub tally-requires-clause-join : goal.tally-requires-clause-join
tally-requires-clause-join c =
    let m = c.self.inside in
    let stage = subst (λ (x : Machine). c.args.stage < stages_in x) (sym c.self.view_is) c.requires.stage in
    let scope = subst (λ (x : Machine). c.args.scope < stages_in x) (sym c.self.view_is) c.requires.scope in
    tie_is (stages_of m.teller.ledger) c.args.scope c.args.stage c.join_of-tie.result c.join_of-tie.ensures stage scope

pub tally-requires-clause-flags : goal.tally-requires-clause-flags
tally-requires-clause-flags c = c.self.invariant.2.flags

pub tally-requires-clause-within : goal.tally-requires-clause-within
tally-requires-clause-within c = c.self.invariant.3.within

pub tally-requires-clause-led : goal.tally-requires-clause-led
tally-requires-clause-led c = c.self.invariant.3.led

pub invariant_of-self : goal.invariant_of-self
invariant_of-self c =
    let m = c.self.inside in
    let n = stages_of m.teller.ledger in
    let stages = (state_of m.teller.ledger).stages in
    let j : Join = c.join_of-tie.result in
    let is : IsOfOne c.args.stage c.args.scope true j = c.join_of-tie.ensures in
    let stage = subst (λ (x : Machine). c.args.stage < stages_in x) (sym c.self.view_is) c.requires.stage in
    let scope = subst (λ (x : Machine). c.args.scope < stages_in x) (sym c.self.view_is) c.requires.scope in
    let still = subst (λ (x : Machine). is_settled_in (state_in x).stages c.args.scope ≡ false) (sym c.self.view_is) c.requires.open_still in
    let join = tie_is n c.args.scope c.args.stage j is stage scope in
    let fit = c.tally.ensures.tallied m.relays.follows.items c.self.invariant.2.marked c.self.invariant.3 in
    four (tied m.teller m.relays c.push_reserved.new.self.items c.tally.new.followed m.deadlines.items m.own j c.push_reserved.ensures.items c.tally.ensures.marks join
    (not_behind stages n c.args.scope c.args.stage j is join still) (three c.self.invariant))
    (fit_rows m.teller (m.relays.follows.items ++ j ∷ []) c.push_reserved.new.self.items c.tally.new.followed c.tally.new.tallies c.push_reserved.ensures.items fit)

pub returns : goal.returns
returns c =
    let m = c.self.inside in
    let j : Join = c.join_of-tie.result in
    let is : IsOfOne c.args.stage c.args.scope true j = c.join_of-tie.ensures in
    let old : Machine = record { teller = m.teller; follows = m.relays.follows.items; deadlines = m.deadlines.items; moment = m.moment; own = m.own; relay_places = vec_capacity m.relays.follows; deadline_places = deque_capacity m.deadlines } in
    let new = c.push_reserved.new.self in
    let stage = subst (λ (x : Machine). c.args.stage < stages_in x) (sym c.self.view_is) c.requires.stage in
    let scope = subst (λ (x : Machine). c.args.scope < stages_in x) (sym c.self.view_is) c.requires.scope in
    let still = subst (λ (x : Machine). is_settled_in (state_in x).stages c.args.scope ≡ false) (sym c.self.view_is) c.requires.open_still in
    let memory = subst (λ (x : Machine). 1 + waiting_in x ≤ free_in x) (sym c.self.view_is) c.requires.memory in
    subst (λ (x : Machine). PutsIn c.args.scope c.args.stage x (record old { follows = new.items; relay_places = vec_capacity new })) c.self.view_is
    (puts_tie old new.items (vec_capacity new) c.args.scope c.args.stage j is stage scope still c.push_reserved.ensures.items
    (omega (arith, new.ok)) (omega (arith, c.push_reserved.ensures.capacity)) memory c.self.invariant.1)
