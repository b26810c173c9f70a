use Rattle.std.proofs.Common.{◌≤◌}
use Rattle.cf_ledger.specs.Ledgers.{state_of}
use Rattle.cf_request.specs.Refusals.{HasLane, IsEnded}
use Rattle.cf_request.specs.Relays.{AreLookedAt, AreThere, IsRelayOr}
use Rattle.cf_request.specs.Settling.{SettlesDue}
use Rattle.cf_request.proofs.Memory.{open_in_all}
use Rattle.cf_request.proofs.refusals.end_all.Given as goal

-- what was due was settled, all stages and a lane are there, so much of what is told was looked at, and there is memory for what may follow
abbrev pub invariant-loop-due : goal.invariant-loop-due
invariant-loop-due l = record {
  settles : SettlesDue (IsRelayOr l.relays.follows.items (IsEnded l.initial.teller.lanes.of l.ending)) l.who l.initial.teller l.teller;
  relays : AreThere (state_of l.teller.ledger) l.relays.follows.items;
  seen : AreLookedAt l.seen l.teller.told l.relays.follows.items (state_of l.teller.ledger).stages;
  lane : HasLane l.teller.lanes.count l.ending;
  memory : open_in_all (state_of l.teller.ledger) ≤ l.teller.ledger.free;
}

abbrev pub decreases-loop-due : goal.decreases-loop-due
decreases-loop-due l = open_in_all (state_of l.teller.ledger)
