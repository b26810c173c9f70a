use Rattle.std.proofs.Common.{◌+◌, ◌≤◌, length, take}
use Rattle.cf_part.specs.Answers.{Sees}
use Rattle.cf_part.specs.Parts.{AreOfStages}
use Rattle.cf_part.proofs.Seen.{AreNamed}
use Rattle.cf_part.proofs.seeing.see.Given as goal

-- the entries so far are seen, and there is memory for the others
abbrev pub invariant-loop-place : goal.invariant-loop-place
invariant-loop-place l = record {
  sees : Sees l.initial.row l.initial.notes (take l.place l.entries) (take l.place l.said) l.row l.notes;
  named : AreNamed (take l.place l.entries);
  memory : length l.entries ≤ l.row.replica.free + l.place;
  stages : AreOfStages l.row.replica l.notes;
}
