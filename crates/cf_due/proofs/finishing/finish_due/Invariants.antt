use Rattle.cf_due.specs.Finishing.{NoneToFinish}
use Rattle.cf_due.proofs.finishing.finish_due.Given as goal

-- none is there so far
abbrev pub invariant-loop-stage : goal.invariant-loop-stage
invariant-loop-stage l = NoneToFinish l.view l.owed l.stage
