use Rattle.cf_due.specs.Timers.{NoneToTime}
use Rattle.cf_due.proofs.timers.timer_due.Given as goal

-- none is there so far
abbrev pub invariant-loop-stage : goal.invariant-loop-stage
invariant-loop-stage l = NoneToTime l.view l.notes l.clock l.stage
