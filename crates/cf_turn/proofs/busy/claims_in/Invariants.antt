use Rattle.std.proofs.Common.{◌≡◌, ◌+◌, ◌≤◌, drop}
use Rattle.cf_turn.specs.Busy.{claims_in}
use Rattle.cf_turn.proofs.busy.claims_in.Given as goal

-- those so far are counted
abbrev pub invariant-loop-entry : goal.invariant-loop-entry
invariant-loop-entry l = record {
  is : claims_in l.entries ≡ l.count + claims_in (drop l.entry-index l.entries);
  few : l.count ≤ l.entry-index;
}
