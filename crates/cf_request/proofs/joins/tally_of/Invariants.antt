use Rattle.std.proofs.Common.{◌≡◌, ◌≤◌, ◌+◌, ◌∷◌, take}
use Rattle.cf_ledger.specs.Ledgers.{state_of}
use Rattle.cf_model.specs.States.{outcome_in}
use Rattle.cf_request.specs.Joins.{failures_by, values_by}
use Rattle.cf_request.proofs.joins.tally_of.Given as goal

-- those so far are counted
abbrev pub invariant-loop-source : goal.invariant-loop-source
invariant-loop-source l = record {
  values : l.tally.values ≡ values_by (outcome_in (state_of l.teller.ledger).stages) (l.join.source ∷ take l.source-index l.join.others.items);
  failures : l.tally.failures ≡ failures_by (outcome_in (state_of l.teller.ledger).stages) (l.join.source ∷ take l.source-index l.join.others.items);
  few_values : l.tally.values ≤ l.source-index + 1;
  few_failures : l.tally.failures ≤ l.source-index + 1;
}
