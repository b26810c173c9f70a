use Rattle.std.proofs.Common.{vec_items, ◌-◌, ◌≤◌, vec_len}
use Rattle.std.specs.Io.KnownBytes.{Consumes}
use Rattle.cf_script_reading.proofs.input.read_input.Given as goal

abbrev pub invariant-pieces : goal.invariant-pieces
invariant-pieces g l = record {
  so_far : Consumes (g.R.Read.remaining l.initial.r) (g.R.Read.remaining l.r) (vec_items l.found);
  few : vec_len l.found ≤ 1048577;
}

abbrev pub decreases-pieces : goal.decreases-pieces
decreases-pieces g l = 1048577 - vec_len l.found
