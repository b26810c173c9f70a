use Rattle.std.proofs.Common.{◌≡◌, ◌+◌, ◌-◌, ◌≤◌, length}
use Rattle.std.specs.Prelude.{vec_capacity}
use Rattle.cf_example.proofs.stored.note_all.Given as goal

-- so many are noted, and there are places for the rest
abbrev pub invariant-loop-place : goal.invariant-loop-place
invariant-loop-place l = record {
  noted : length l.said.items ≡ length l.initial.said.items + l.place;
  places : length l.said.items + (l.count - l.place) ≤ vec_capacity l.said;
}
