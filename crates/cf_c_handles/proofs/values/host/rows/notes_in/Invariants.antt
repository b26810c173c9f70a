use Rattle.std.proofs.Common.{◌≡◌, ◌≤◌, length, map, take, vec_capacity}
use Rattle.cf_c_handles.specs.HostValues.{AreNotes, note_in}
use Rattle.cf_c_handles.proofs.values.host.rows.notes_in.Given as goal

-- those so far are read
abbrev pub invariant-each : goal.invariant-each
invariant-each l = record {
  read : AreNotes (map note_in (take l.k l.rows)) l.notes.items;
  count : length l.notes.items ≡ l.k;
  room : length l.rows ≤ vec_capacity l.notes;
}
