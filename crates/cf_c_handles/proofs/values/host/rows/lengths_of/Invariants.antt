use Rattle.std.proofs.Common.{◌≡◌, ◌≤◌, length, map, take, vec_capacity}
use Rattle.cf_c_handles.specs.HostValues.{length_at}
use Rattle.cf_c_handles.proofs.values.host.rows.lengths_of.Given as goal

-- those so far are made
abbrev pub invariant-loop-row : goal.invariant-loop-row
invariant-loop-row l = record {
  made : l.lengths.items ≡ map length_at (take l.row-index l.rows);
  count : length l.lengths.items ≡ l.row-index;
  room : length l.rows ≤ vec_capacity l.lengths;
}
