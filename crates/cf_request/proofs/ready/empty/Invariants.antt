use Rattle.std.proofs.Common.{◌≡◌, ◌≤◌, false, length, vec_capacity}
use Rattle.std.specs.Prelude.{replicate}
use Rattle.cf_request.proofs.ready.empty.Given as goal

-- so many are made
abbrev pub invariant-loop-made : goal.invariant-loop-made
invariant-loop-made l = record {
  made : l.sets.items ≡ replicate l._made (replicate l.places false);
  count : length l.sets.items ≡ l._made;
  room : l.lanes ≤ vec_capacity l.sets;
}
