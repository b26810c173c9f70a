use Rattle.std.proofs.Common.{◌+◌, ◌≤◌, length, take}
use Rattle.cf_ledger.specs.Ledgers.{state_of}
use Rattle.cf_request.specs.Relays.{AreThere, IsRelayDue, NoneBehind, waiting_of}
use Rattle.cf_request.specs.Settling.{SettlesDue}
use Rattle.cf_request.proofs.relays.settle_behind.Given as goal

-- relays were settled, all stages are there, none before the place is behind, each word was one relay's, and so many are open at most
abbrev pub invariant-loop-behind : goal.invariant-loop-behind
invariant-loop-behind l = record {
  settles : SettlesDue (IsRelayDue l.relays.follows.items) l.who l.initial.teller l.teller;
  there : AreThere (state_of l.teller.ledger) l.relays.follows.items;
  before : NoneBehind (take l.from l.relays.follows.items) (state_of l.teller.ledger).stages;
  waiting : length (waiting_of (state_of l.teller.ledger).stages l.relays.follows.items) ≤ l.waiting;
  fewer : l.waiting ≤ l.relays.waiting;
  memory : l.initial.teller.ledger.free + length (waiting_of (state_of l.teller.ledger).stages l.relays.follows.items)
      ≤ l.teller.ledger.free + length (waiting_of (state_of l.initial.teller.ledger).stages l.relays.follows.items);
}

abbrev pub decreases-loop-behind : goal.decreases-loop-behind
decreases-loop-behind l = length (waiting_of (state_of l.teller.ledger).stages l.relays.follows.items)
