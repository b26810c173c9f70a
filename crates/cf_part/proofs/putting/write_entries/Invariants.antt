use Rattle.std.proofs.Common.{◌≡◌, ◌≤◌, length, take, vec_capacity}
use Rattle.cf_part.proofs.putting.write_entries.Given as goal

-- the entries so far are written
abbrev pub invariant-loop-entry : goal.invariant-loop-entry
invariant-loop-entry l = record {
  written : l.entries.items ≡ take l.entry-index l.put;
  count : length l.entries.items ≡ l.entry-index;
  room : length l.put ≤ vec_capacity l.entries;
  kept : vec_capacity l.entries ≡ vec_capacity l.initial.entries;
}
