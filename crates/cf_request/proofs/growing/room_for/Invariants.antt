use Rattle.std.proofs.Common.{◌≡◌, ◌⊎◌, ◌+◌, ◌≤◌}
use Rattle.cf_request.specs.Growing.{HasPlaceFor, wanted_in}
use Rattle.cf_request.proofs.growing.room_for.Given as goal

-- it has place for no more, of those that are wanted
abbrev pub invariant-loop-more : goal.invariant-loop-more
invariant-loop-more l = record {
  most : l.more ≤ wanted_in l.ledger;
  as_far : (l.more ≡ wanted_in l.ledger) ⊎ (¬ HasPlaceFor l.ledger (l.more + 1));
}

abbrev pub decreases-loop-more : goal.decreases-loop-more
decreases-loop-more l = l.more
