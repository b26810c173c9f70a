use Rattle.std.proofs.Common.{◌+◌, ◌≤◌, drop, length, take}
use Rattle.std.specs.Prelude.{vec_capacity}
use Rattle.cf_watch.specs.Watches.{AreMet}
use Rattle.cf_watch.proofs.watch.meet_all.Given as goal

-- the sessions of the beats so far are known, and the others' places are there
abbrev pub invariant-loop-beat : goal.invariant-loop-beat
invariant-loop-beat l = record {
  met : AreMet l.lease (take l.beat-index l.beats) l.initial.known.items l.known.items;
  places : length l.known.items + length (drop l.beat-index l.beats) ≤ vec_capacity l.known;
}
