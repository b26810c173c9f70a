use Rattle.std.proofs.Common.{◌-◌, ◌≤◌, ◌∙◌, arith, refl, subst}
use Rattle.std.specs.Prelude.{vec_capacity}
use Rattle.std.specs.VecDeque.{deque_capacity}
use Rattle.cf_model.specs.declared.events.Reply.TheVariants.{Claim as Told}
use Rattle.cf_ledger.specs.Ledgers.{state_of}
use Rattle.cf_request.specs.Machines.{AppliesWord, CatchesUp, Machine}
use Rattle.cf_request.specs.Relays.{open_relays}
use Rattle.cf_request.proofs.Machines.{kept_all, kept_found, kept_word, still_word}
use Rattle.cf_request.proofs.Fits.{fit_found, four, kept_same, three}
use Rattle.cf_request.proofs.Tallied.{stays_memory, stays_then, stays_word, tallied_later}
use Rattle.cf_request.proofs.machine.Machine.apply_claim.Goals as goal

still : (c : goal.In_ok-told) → CatchesUp c.self.inside.own c.self.inside.relays.follows.items c.claim_word.new.self c.claim_word.new.self × (open_relays c.claim_word.new.self c.self.inside.relays ≤ c.self.inside.relays.waiting)
still c =
    let m = c.self.inside in
    let enough : m.relays.waiting ≤ c.reserve.new.self.ledger.free - 1 = omega (arith, c.in_ok-reserve.ensures.enough, c.words_beside.ensures.enough) in
    still_word _ m.teller c.reserve.new.self c.claim_word.new.self c.args.word (Told c.in_ok-told.told) m.relays m.deadlines.items m.own
    c.self.invariant.0 c.self.invariant.1 c.self.invariant.2 c.in_ok-reserve.ensures.found enough (c.in_ok-told.ensures.done 0).tells c.in_ok-told.ensures.settles_none

pub invariant_of-self-in_err-told : goal.invariant_of-self-in_err-told
invariant_of-self-in_err-told c =
    let m = c.self.inside in
    four (kept_found _ m.teller c.claim_word.new.self m.relays m.deadlines.items m.own (c.in_err-told.ensures.refused ∙ c.in_ok-reserve.ensures.found) (three c.self.invariant))
    (fit_found _ m.teller c.claim_word.new.self m.relays.follows.items m.relays.followed m.tallies (c.in_err-told.ensures.refused ∙ c.in_ok-reserve.ensures.found) c.self.invariant.3)

pub invariant_of-self-2 : goal.invariant_of-self-2
invariant_of-self-2 c =
    let m = c.self.inside in
    let b = c.claim_word.new.self in
    four (kept_all m.own b b m.relays m.deadlines.items m.relays.waiting (state_of m.teller.ledger).stages (still c).0
    (kept_word _ m.teller c.reserve.new.self b c.args.word (Told c.in_ok-told.told) m.relays.follows.items m.deadlines.items m.own c.self.invariant.0 c.in_ok-reserve.ensures.found (c.in_ok-told.ensures.done 0).tells)
    c.self.invariant.2 (still c).1 (omega arith))
    (tallied_later m.relays.follows.items m.relays.followed m.tallies m.teller b (stays_then m.teller c.reserve.new.self b (stays_memory _ m.teller c.reserve.new.self c.in_ok-reserve.ensures.found) (stays_word c.reserve.new.self b c.args.word (Told c.in_ok-told.told) (c.in_ok-told.ensures.done 0).tells)) c.self.invariant.3)

pub returns-clause-done : goal.returns-clause-done
returns-clause-done c lane =
    let m = c.self.inside in
    let b = c.claim_word.new.self in
    let most = c.self.invariant.2.most in
    let few = c.self.invariant.2.few in
    let new : Machine = record { teller = b; follows = m.relays.follows.items; deadlines = m.deadlines.items; moment = m.moment; own = m.own; relay_places = vec_capacity m.relays.follows; deadline_places = deque_capacity m.deadlines } in
    subst (λ (old : Machine). AppliesWord c.args.word lane old (Told c.in_ok-told.told) new) c.self.view_is
    (record {
      found = c.reserve.new.self;
      finds = record { words = c.words_beside.result; enough = omega (arith, most, c.words_beside.ensures.enough); few = omega (arith, few, c.words_beside.ensures.few); is = c.in_ok-reserve.ensures.found };
      between = b;
      tells = c.in_ok-told.ensures.done lane;
      catches_up = (still c).0;
      same = refl;
    })

pub invariant_of-self : goal.invariant_of-self
invariant_of-self c = let m = c.self.inside in kept_same m.teller c.reserve.new.self m.relays m.tallies m.deadlines.items m.own c.in_err-reserve.ensures.refused c.self.invariant
