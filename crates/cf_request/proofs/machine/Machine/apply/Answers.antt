use Rattle.std.proofs.Common.{◌-◌, ◌≤◌, ◌∙◌, ℕ, List, ap, arith, length, refl, subst}
use Rattle.std.specs.Prelude.{vec_capacity}
use Rattle.std.specs.VecDeque.{deque_capacity}
use Rattle.cf_ledger.specs.Ledgers.{state_of}
use Rattle.cf_request.specs.Machines.{AppliesWord, Machine}
use Rattle.cf_request.proofs.Machines.{kept_all, kept_found, kept_word, may_word}
use Rattle.cf_request.proofs.Fits.{fit_found, four, kept_same, noted_before, three}
use Rattle.cf_request.proofs.Tallied.{stays_memory, stays_then, stays_word, tallied_later}
use Rattle.cf_request.proofs.machine.Machine.apply.Goals as goal

pub catch_up-self-inside-requires-clause-may : goal.catch_up-self-inside-requires-clause-may
catch_up-self-inside-requires-clause-may c =
    let m = c.self.inside in
    let enough : m.relays.waiting ≤ c.reserve.new.self.ledger.free - 1 = omega (arith, c.in_ok-reserve.ensures.enough, c.words_beside.ensures.enough) in
    may_word _ m.teller c.reserve.new.self c.apply.new.self c.args.word c.in_ok-reply.reply m.relays m.deadlines.items m.own (length c.told-seen.result.now)
    c.self.invariant.0 c.self.invariant.1 c.self.invariant.2 c.in_ok-reserve.ensures.found (ap (λ (l : List ℕ). length l) c.told-seen.ensures.told) enough c.in_ok-reply.ensures.done.tells

pub catch_up-self-inside-requires-clause-tallied : goal.catch_up-self-inside-requires-clause-tallied
catch_up-self-inside-requires-clause-tallied c =
    let m = c.self.inside in
    let r = c.reserve.new.self in
    let b = c.apply.new.self in
    tallied_later m.relays.follows.items m.relays.followed m.tallies m.teller b (stays_then m.teller r b (stays_memory _ m.teller r c.in_ok-reserve.ensures.found) (stays_word r b c.args.word c.in_ok-reply.reply c.in_ok-reply.ensures.done.tells)) c.self.invariant.3

pub catch_up-self-inside-requires-clause-noted : goal.catch_up-self-inside-requires-clause-noted
catch_up-self-inside-requires-clause-noted c =
    let m = c.self.inside in
    noted_before _ m.teller c.reserve.new.self c.apply.new.self m.tallies.noted (length c.told-seen.result.now) c.in_ok-reserve.ensures.found c.in_ok-reply.ensures.done.tells.taken (ap (λ (l : List ℕ). length l) c.told-seen.ensures.told) c.self.invariant.3.within

pub invariant_of-self-in_err-reply : goal.invariant_of-self-in_err-reply
invariant_of-self-in_err-reply c =
    let m = c.self.inside in
    four (kept_found _ m.teller c.apply.new.self m.relays m.deadlines.items m.own (c.in_err-reply.ensures.refused ∙ c.in_ok-reserve.ensures.found) (three c.self.invariant))
    (fit_found _ m.teller c.apply.new.self m.relays.follows.items m.relays.followed m.tallies (c.in_err-reply.ensures.refused ∙ c.in_ok-reserve.ensures.found) c.self.invariant.3)

pub invariant_of-self-2 : goal.invariant_of-self-2
invariant_of-self-2 c =
    let m = c.self.inside in
    four (kept_all m.own c.apply.new.self c.catch_up-self-inside.new.teller m.relays m.deadlines.items c.catch_up-self-inside.result (state_of m.teller.ledger).stages c.catch_up-self-inside.ensures.settled
    (kept_word _ m.teller c.reserve.new.self c.apply.new.self c.args.word c.in_ok-reply.reply m.relays.follows.items m.deadlines.items m.own c.self.invariant.0 c.in_ok-reserve.ensures.found c.in_ok-reply.ensures.done.tells)
    c.self.invariant.2 c.catch_up-self-inside.ensures.counted c.catch_up-self-inside.ensures.fewer) c.catch_up-self-inside.ensures.tallied

pub returns-clause-done : goal.returns-clause-done
returns-clause-done c =
    let m = c.self.inside in
    let b = c.apply.new.self in
    let d = c.catch_up-self-inside.new.teller in
    let most = c.self.invariant.2.most in
    let few = c.self.invariant.2.few in
    let new : Machine = record { teller = d; follows = m.relays.follows.items; deadlines = m.deadlines.items; moment = m.moment; own = m.own; relay_places = vec_capacity m.relays.follows; deadline_places = deque_capacity m.deadlines } in
    subst (λ (old : Machine). AppliesWord c.args.word c.args.lane old c.in_ok-reply.reply new) c.self.view_is
    (record {
      found = c.reserve.new.self;
      finds = record { words = c.words_beside.result; enough = omega (arith, most, c.words_beside.ensures.enough); few = omega (arith, few, c.words_beside.ensures.few); is = c.in_ok-reserve.ensures.found };
      between = b;
      tells = c.in_ok-reply.ensures.done;
      catches_up = c.catch_up-self-inside.ensures.settled;
      same = refl;
    })

pub invariant_of-self : goal.invariant_of-self
invariant_of-self c = let m = c.self.inside in kept_same m.teller c.reserve.new.self m.relays m.tallies m.deadlines.items m.own c.in_err-reserve.ensures.refused c.self.invariant
