use Rattle.std.proofs.Common.{◌≡◌, ◌≤◌, length, take}
use Rattle.cf_ledger.specs.Ledgers.{state_of}
use Rattle.cf_request.specs.Joins.{IsUndecided, failures_by, outcome_among, sources_of, values_by}
use Rattle.cf_request.specs.Telling.{order_in}
use Rattle.cf_request.proofs.joins.decided_in_order.Given as goal

-- what the stages before the place come to is counted, and decides it
abbrev pub invariant-loop-place : goal.invariant-loop-place
invariant-loop-place l = record {
  within : l.place ≤ length (order_in l.teller);
  values : l.tally.values ≡ values_by (outcome_among (state_of l.teller.ledger).stages (take l.place (order_in l.teller))) (sources_of l.join);
  failures : l.tally.failures ≡ failures_by (outcome_among (state_of l.teller.ledger).stages (take l.place (order_in l.teller))) (sources_of l.join);
  decided : ¬ IsUndecided (outcome_among (state_of l.teller.ledger).stages (take l.place (order_in l.teller))) l.join;
}

abbrev pub decreases-loop-place : goal.decreases-loop-place
decreases-loop-place l = l.place
