use Rattle.std.proofs.Common.{arith}
use Rattle.cf_ledger.specs.Ledgers.{state_of}
use Rattle.cf_request.specs.Relays.{IsRelayDue}
use Rattle.cf_request.proofs.Memory.{none_waiting}
use Rattle.cf_request.proofs.Tallied.{none_left_behind, stays_dues, tallied_later}
use Rattle.cf_request.proofs.Turns.{dues_none}
use Rattle.cf_request.proofs.relays.catch_up.Goals as goal

pub returns-then-relays-eq0-clause-settled : goal.returns-then-relays-eq0-clause-settled
returns-then-relays-eq0-clause-settled c =
    let few = c.requires.may.settle.counted in
    record {
      settles = dues_none (IsRelayDue c.args.relays.now.follows.items) c.args.who c.args.teller.now;
      none = none_waiting (state_of c.args.teller.now.ledger).stages c.args.relays.now.follows.items (omega (arith, few, c.if-relays-eq0.true));
    }

pub returns-then-is_due-clause-tallied : goal.returns-then-is_due-clause-tallied
returns-then-is_due-clause-tallied c =
    let r = c.args.relays.now in
    tallied_later r.follows.items r.followed c.note-is_due.new.tallies c.args.teller.now c.settle_behind.new.teller
    (stays_dues (IsRelayDue r.follows.items) c.args.who c.args.teller.now c.settle_behind.new.teller c.settle_behind.ensures.settled.settles)
    (c.note-is_due.ensures.tallied r.follows.items c.requires.may.marked c.requires.tallied)

pub returns-clause-settled : goal.returns-clause-settled
returns-clause-settled c =
    let r = c.args.relays.now in
    let t = c.args.teller.now in
    let x = c.note-is_due.new.tallies in
    record {
      settles = dues_none (IsRelayDue r.follows.items) c.args.who t;
      none = none_left_behind (state_of t.ledger) t.taken t.told c.args.seen c.args.tallies.now.noted x.noted r.followed x.spares.items r.follows.items c.note-is_due.ensures.once c.note-is_due.ensures.all c.requires.noted
          c.requires.may.marked (c.note-is_due.ensures.left c.if-is_due.false) c.requires.may.looked_at (c.note-is_due.ensures.tallied r.follows.items c.requires.may.marked c.requires.tallied);
    }

pub returns-clause-tallied : goal.returns-clause-tallied
returns-clause-tallied c = let r = c.args.relays.now in c.note-is_due.ensures.tallied r.follows.items c.requires.may.marked c.requires.tallied
