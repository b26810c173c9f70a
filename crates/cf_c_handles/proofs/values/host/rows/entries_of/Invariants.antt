use Rattle.std.proofs.Common.{◌≡◌, ◌≤◌, length, map, take, vec_capacity}
use Rattle.cf_c_handles.specs.HostValues.{entry_at}
use Rattle.cf_c_handles.proofs.values.host.rows.entries_of.Given as goal

-- those so far are made
abbrev pub invariant-loop-row : goal.invariant-loop-row
invariant-loop-row l = record {
  made : l.entries.items ≡ map entry_at (take l.row-index l.rows);
  count : length l.entries.items ≡ l.row-index;
  room : length l.rows ≤ vec_capacity l.entries;
}
