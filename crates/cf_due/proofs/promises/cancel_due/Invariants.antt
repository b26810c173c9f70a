use Rattle.cf_due.specs.Promises.{NoneToCancel}
use Rattle.cf_due.proofs.promises.cancel_due.Given as goal

-- none is there so far
abbrev pub invariant-loop-stage : goal.invariant-loop-stage
invariant-loop-stage l = NoneToCancel l.view l.notes l.stage
