use Rattle.std.proofs.Common.{ℕ}
use Rattle.cf_due.specs.Promises.{IsToCancel}
use Rattle.cf_due.proofs.Below.{none_more}
use Rattle.cf_due.proofs.promises.cancel_due.Goals as goal

pub loop-stage-preserved : goal.loop-stage-preserved
loop-stage-preserved c =
    none_more {A = ℕ} (IsToCancel c.args.view.now c.args.notes.now) c.loop-stage.stage c.loop-stage.invariant c.in_default.ensures.none
