use Rattle.std.proofs.Common.{◌≡◌, ◌≤◌, length, take, vec_capacity}
use Rattle.cf_part.specs.Parts.{notes_wanted}
use Rattle.cf_part.proofs.putting.write_notes.Given as goal

-- the notes so far are written
abbrev pub invariant-loop-want : goal.invariant-loop-want
invariant-loop-want l = record {
  written : l.notes.items ≡ notes_wanted (take l.want-index l.wants);
  count : length l.notes.items ≡ l.want-index;
  room : length l.wants ≤ vec_capacity l.notes;
  kept : vec_capacity l.notes ≡ vec_capacity l.initial.notes;
}
