use Rattle.std.proofs.Common.{◌-◌, ◌≤◌}
use Rattle.cf_part.specs.Steps.{IsToCall}
use Rattle.cf_row.specs.Rows.{stages_of}
use Rattle.cf_turn.specs.Busy.{Counts}
use Rattle.cf_turn.proofs.busy.count_to_call.Given as goal

-- those so far are counted
abbrev pub invariant-loop-stage : goal.invariant-loop-stage
invariant-loop-stage l = record {
  counts : Counts (IsToCall l.calls l.view) l.from l.count;
  few : l.count ≤ l.from;
  low : l.from ≤ stages_of l.view;
}

abbrev pub decreases-loop-stage : goal.decreases-loop-stage
decreases-loop-stage l = 4096 - l.from
