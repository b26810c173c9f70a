use Rattle.std.proofs.Common.{take}
use Rattle.cf_example.specs.Hosting.{AreWoken}
use Rattle.cf_example.proofs.hosting.wake_all.Given as goal

-- those so far are told
abbrev pub invariant-loop-stage : goal.invariant-loop-stage
invariant-loop-stage g l = AreWoken g.W.Waiters.wakes l.initial.waiters (take l.stage-index l.stages) l.waiters
