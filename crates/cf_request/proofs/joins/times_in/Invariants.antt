use Rattle.std.proofs.Common.{◌≡◌, ◌≤◌, ◌+◌, ◌∷◌, take}
use Rattle.cf_request.specs.Joins.{times_in}
use Rattle.cf_request.proofs.joins.times_in.Given as goal

-- those so far are counted
abbrev pub invariant-loop-source : goal.invariant-loop-source
invariant-loop-source l = record {
  counted : l.count ≡ times_in l.stage (l.join.source ∷ take l.source-index l.join.others.items);
  few : l.count ≤ l.source-index + 1;
}
