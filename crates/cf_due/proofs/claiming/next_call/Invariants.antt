use Rattle.std.proofs.Common.{◌-◌}
use Rattle.cf_row.specs.Rows.{stages_of}
use Rattle.cf_due.specs.Claiming.{NoneToCall}
use Rattle.cf_due.proofs.claiming.next_call.Given as goal

-- none is there so far
abbrev pub invariant-loop-stage : goal.invariant-loop-stage
invariant-loop-stage l = NoneToCall l.view l.notes l.ended l.from

abbrev pub decreases-loop-stage : goal.decreases-loop-stage
decreases-loop-stage l = stages_of l.view - l.from
