use Rattle.std.proofs.Common.{◌≡◌, ◌≤◌, length, take, vec_capacity}
use Rattle.cf_part.proofs.putting.write_wants.Given as goal

-- those so far are kept
abbrev pub invariant-loop-want : goal.invariant-loop-want
invariant-loop-want l = record {
  written : l.kept.items ≡ take l.want-index l.wants;
  count : length l.kept.items ≡ l.want-index;
  room : length l.wants ≤ vec_capacity l.kept;
  kept : vec_capacity l.kept ≡ vec_capacity l.initial.kept;
}
