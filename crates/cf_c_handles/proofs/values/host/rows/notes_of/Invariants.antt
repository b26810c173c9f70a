use Rattle.std.proofs.Common.{◌≡◌, ◌≤◌, length, take, vec_capacity}
use Rattle.cf_c_handles.specs.HostValues.{AreNotes}
use Rattle.cf_c_handles.proofs.values.host.rows.notes_of.Given as goal

-- those so far are read
abbrev pub invariant-each : goal.invariant-each
invariant-each l = record {
  read : AreNotes (take l.k l.numbers) l.notes.items;
  count : length l.notes.items ≡ l.k;
  room : length l.numbers ≤ vec_capacity l.notes;
}
