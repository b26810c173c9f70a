use Rattle.std.proofs.Common.{take}
use Rattle.cf_example.specs.Processes.{AreLed}
use Rattle.cf_example.proofs.processes.start.Given as goal

-- those so far are led
abbrev pub invariant-loop-session : goal.invariant-loop-session
invariant-loop-session l = AreLed l.stored (take l.session-index l.sessions) l.workers.items
