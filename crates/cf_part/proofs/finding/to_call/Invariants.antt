use Rattle.std.proofs.Common.{◌-◌}
use Rattle.cf_part.specs.Steps.{NoneToCall}
use Rattle.cf_part.proofs.finding.to_call.Given as goal

-- none so far is to be called
abbrev pub invariant-loop-stage : goal.invariant-loop-stage
invariant-loop-stage l = NoneToCall l.calls l.replica l.from

abbrev pub decreases-loop-stage : goal.decreases-loop-stage
decreases-loop-stage l = 4096 - l.from
