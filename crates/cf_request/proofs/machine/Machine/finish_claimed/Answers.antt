use Rattle.std.proofs.Common.{◌+◌, ◌≤◌, ℕ, List, ap, arith, length, subst, sym}
use Rattle.std.specs.Prelude.{Some, vec_capacity}
use Rattle.std.specs.VecDeque.{deque_capacity}
use Rattle.cf_forms.specs.declared.forms.Answer.TheVariants.{Link}
use Rattle.cf_ledger.specs.Ledgers.{state_of}
use Rattle.cf_ledger.specs.declared.step.Held.{Held}
use Rattle.cf_request.specs.Composing.{FinishesClaimed}
use Rattle.cf_request.specs.Machines.{Machine, free_in, waiting_in}
use Rattle.cf_request.specs.Relays.{open_relays}
use Rattle.cf_request.proofs.Composes.{finishes_claimed, may_claimed}
use Rattle.cf_request.proofs.Machines.{keeps_held, kept_all, kept_by}
use Rattle.cf_request.proofs.Fits.{four, noted_same}
use Rattle.cf_request.proofs.Tallied.{stays_held, tallied_later}
use Rattle.cf_request.proofs.machine.Machine.finish_claimed.Goals as goal

pub catch_up-self-inside-requires-clause-may : goal.catch_up-self-inside-requires-clause-may
catch_up-self-inside-requires-clause-may c =
    let m = c.self.inside in
    let enough : 1 + open_relays m.teller m.relays ≤ m.teller.ledger.free = subst (λ (x : Machine). 1 + waiting_in x ≤ free_in x) (sym c.self.view_is) c.requires.memory in
    may_claimed m.teller c.finish-finish.new.teller c.args.who (record { stage = c.args.composed.stage; answer = Link c.args.composed.relay }) c.finish-finish.result m.relays m.deadlines.items m.own (length c.told-seen.result.now)
    c.self.invariant.0 c.self.invariant.1 c.self.invariant.2 (ap (λ (l : List ℕ). length l) c.told-seen.ensures.told) enough c.finish-finish.ensures

pub catch_up-self-inside-requires-clause-tallied : goal.catch_up-self-inside-requires-clause-tallied
catch_up-self-inside-requires-clause-tallied c =
    let m = c.self.inside in
    let b = c.finish-finish.new.teller in
    let held : Held = record { stage = c.args.composed.stage; answer = Link c.args.composed.relay } in
    tallied_later m.relays.follows.items m.relays.followed m.tallies m.teller b (stays_held c.args.who (Some held) m.teller (Some c.finish-finish.result) b c.finish-finish.ensures) c.self.invariant.3

pub catch_up-self-inside-requires-clause-noted : goal.catch_up-self-inside-requires-clause-noted
catch_up-self-inside-requires-clause-noted c =
    let m = c.self.inside in
    noted_same m.teller c.finish-finish.new.teller m.tallies.noted (length c.told-seen.result.now) c.finish-finish.ensures.done.tells.tells.taken (ap (λ (l : List ℕ). length l) c.told-seen.ensures.told) c.self.invariant.3.within

pub invariant_of-self : goal.invariant_of-self
invariant_of-self c =
    let m = c.self.inside in
    let b = c.finish-finish.new.teller in
    let held : Held = record { stage = c.args.composed.stage; answer = Link c.args.composed.relay } in
    four (kept_all m.own b c.catch_up-self-inside.new.teller m.relays m.deadlines.items c.catch_up-self-inside.result (state_of m.teller.ledger).stages c.catch_up-self-inside.ensures.settled
    (kept_by m.teller b m.relays.follows.items m.deadlines.items m.own (keeps_held c.args.who (Some held) m.teller (Some c.finish-finish.result) b c.finish-finish.ensures) c.self.invariant.0)
    c.self.invariant.2 c.catch_up-self-inside.ensures.counted c.catch_up-self-inside.ensures.fewer) c.catch_up-self-inside.ensures.tallied

pub returns : goal.returns
returns c =
    let m = c.self.inside in
    let b = c.finish-finish.new.teller in
    let d = c.catch_up-self-inside.new.teller in
    let first : Machine = record { teller = m.teller; follows = m.relays.follows.items; deadlines = m.deadlines.items; moment = m.moment; own = m.own; relay_places = vec_capacity m.relays.follows; deadline_places = deque_capacity m.deadlines } in
    let enough = subst (λ (x : Machine). 1 + waiting_in x ≤ free_in x) (sym c.self.view_is) c.requires.memory in
    subst (λ (old : Machine). FinishesClaimed c.args.who c.args.composed old c.finish-finish.result (record first { teller = d })) c.self.view_is
    (finishes_claimed c.args.who c.args.composed first c.finish-finish.result b d c.finish-finish.ensures
    c.catch_up-self-inside.ensures.settled (omega (arith, enough)))
