use Rattle.cf_outcome.specs.declared.outcome.Outcome.{Outcome}
use Rattle.cf_due.specs.Promises.{IsToLink}
use Rattle.cf_due.proofs.Below.{none_more}
use Rattle.cf_due.proofs.promises.link_due.Goals as goal

pub loop-promise-preserved : goal.loop-promise-preserved
loop-promise-preserved c =
    none_more {A = Outcome} (IsToLink c.args.view.now c.args.notes.now) c.loop-promise.promise c.loop-promise.invariant c.in_default.ensures.none
