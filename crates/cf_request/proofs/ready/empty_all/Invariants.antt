use Rattle.std.proofs.Common.{◌≡◌, false, length, take}
use Rattle.std.specs.Prelude.{replicate}
use Rattle.cf_request.proofs.ready.empty_all.Given as goal

-- those so far are empty
abbrev pub invariant-loop-k : goal.invariant-loop-k
invariant-loop-k l = record {
  count : length l.sets.items ≡ length l.initial.sets.items;
  empty : take l.k l.sets.items ≡ replicate l.k (replicate l.places false);
}
