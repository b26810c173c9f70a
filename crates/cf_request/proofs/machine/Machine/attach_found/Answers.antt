use Rattle.std.proofs.Common.{◌+◌, ◌≤◌, arith, subst, sym}
use Rattle.std.specs.Prelude.{vec_capacity}
use Rattle.std.specs.VecDeque.{deque_capacity}
use Rattle.cf_request.specs.Machines.{Machine, free_in, state_in, waiting_in}
use Rattle.cf_request.specs.Scopes.{AttachesFound, MayAttach}
use Rattle.cf_request.proofs.Attached.{found_none, kept_attach}
use Rattle.cf_request.proofs.Ends.{attached, attached_row, attaches_found}
use Rattle.cf_request.proofs.Fits.{four}
use Rattle.cf_request.proofs.Tallied.{stays_word, tallied_later}
use Rattle.cf_request.proofs.machine.Machine.attach_found.Goals as goal

pub invariant_of-self : goal.invariant_of-self
invariant_of-self c =
    let m = c.self.inside in
    let b = c.apply.new.self in
    let may = subst (λ (x : Machine). MayAttach c.args.word (state_in x)) (sym c.self.view_is) c.requires.may in
    let was = attached c.args.lane c.args.word m.teller b c.in-Ok.field-0 may c.in-Ok.ensures.done in
    four (kept_attach 0 m.teller m.teller b _ m.relays.follows.items m.deadlines.items m.own m.relays.followed m.relays.waiting (found_none m.teller 0 (omega arith))
    (attached_row c.args.lane c.args.word m.teller b was) c.self.invariant.0 c.self.invariant.1 c.self.invariant.2)
    (tallied_later m.relays.follows.items m.relays.followed m.tallies m.teller b (stays_word m.teller b c.args.word c.in-Ok.field-0 c.in-Ok.ensures.done.tells) c.self.invariant.3)

pub returns : goal.returns
returns c =
    let m = c.self.inside in
    let old : Machine = record { teller = m.teller; follows = m.relays.follows.items; deadlines = m.deadlines.items; moment = m.moment; own = m.own; relay_places = vec_capacity m.relays.follows; deadline_places = deque_capacity m.deadlines } in
    let enough = subst (λ (x : Machine). 2 + waiting_in x ≤ free_in x) (sym c.self.view_is) c.requires.memory in
    let may = subst (λ (x : Machine). MayAttach c.args.word (state_in x)) (sym c.self.view_is) c.requires.may in
    subst (λ (x : Machine). AttachesFound c.args.word c.args.lane x (record old { teller = c.apply.new.self })) c.self.view_is
    (attaches_found c.args.word c.args.lane old c.apply.new.self c.in-Ok.field-0 may c.in-Ok.ensures.done enough c.self.invariant.0.relays c.self.invariant.1)
