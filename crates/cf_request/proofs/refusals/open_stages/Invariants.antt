use Rattle.std.proofs.Common.{◌≡◌, ◌≤◌}
use Rattle.cf_ledger.specs.Ledgers.{state_of}
use Rattle.cf_request.specs.Refusals.{open_below}
use Rattle.cf_request.proofs.refusals.open_stages.Given as goal

-- those so far are counted
abbrev pub invariant-loop-i : goal.invariant-loop-i
invariant-loop-i l = record {
  counted : l.count ≡ open_below (state_of l.teller.ledger).stages l.i;
  few : l.count ≤ l.i;
}
