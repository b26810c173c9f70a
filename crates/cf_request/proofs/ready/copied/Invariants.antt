use Rattle.std.proofs.Common.{◌≡◌, ◌≤◌, length, take, vec_capacity}
use Rattle.cf_request.proofs.ready.copied.Given as goal

-- those so far are written
abbrev pub invariant-loop-lane : goal.invariant-loop-lane
invariant-loop-lane l = record {
  written : l.row.items ≡ take l.lane-index l.lanes;
  count : length l.row.items ≡ l.lane-index;
  room : l.places ≤ vec_capacity l.row;
}
