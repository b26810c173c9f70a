use Rattle.std.specs.Prelude.{◌+◌, ◌≤◌, length, take}
use Rattle.cf_row.specs.Rows.{Replays}
use Rattle.cf_row.proofs.replica.Replica.replay.Given as goal

-- the entries so far are replayed, and there is memory for the others
abbrev pub invariant-loop-place : goal.invariant-loop-place
invariant-loop-place l = record {
  done : Replays l.initial.self (take l.place l.entries) l.self;
  memory : length l.entries ≤ l.self.free + l.place;
  less : l.self.free ≤ l.initial.self.free;
}
