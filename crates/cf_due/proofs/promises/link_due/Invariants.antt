use Rattle.cf_due.specs.Promises.{NoneToLink}
use Rattle.cf_due.proofs.promises.link_due.Given as goal

-- none is there so far
abbrev pub invariant-loop-promise : goal.invariant-loop-promise
invariant-loop-promise l = NoneToLink l.view l.notes l.promise
