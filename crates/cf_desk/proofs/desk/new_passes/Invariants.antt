use Rattle.std.proofs.Common.{◌≡◌, ◌-◌, ◌+◌, ◌≤◌, map, vec_len, vec_capacity}
use Rattle.cf_desk.specs.Openings.{StandsFrom, setting_of}
use Rattle.cf_desk.specs.Rule.{fresh}
use Rattle.cf_desk.specs.Views.{new_pass}
use Rattle.cf_desk.proofs.desk.new_passes.Given as goal

abbrev pub invariant-loop-caller : goal.invariant-loop-caller
invariant-loop-caller l = record {
  table : l.seat.table_id ≡ l.row.shared.table_id;
  seat : StandsFrom l.caller l.opening l.seat.me;
  left : vec_len l.passes + (l.opening.sizes.callers - l.caller) ≤ vec_capacity l.passes;
  passes : l.passes.items ≡ map (new_pass l.row.shared.table_id l.opening.sizes.calls) (fresh (setting_of l.opening) 0 l.caller);
}
