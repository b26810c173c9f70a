use Rattle.cf_forms.specs.Plans.{with_room}
use Rattle.cf_history.proofs.Told.{told_shared}
use Rattle.cf_history.proofs.filling.check_shared.Goals as goal

pub returns-clause-tells : goal.returns-clause-tells
returns-clause-tells c =
    let filled = c.in_ok-history.ensures in
    told_shared (with_room c.args.plan.now c.args.room) c.args.shared c.in_ok-history.history c.check-verdict.result filled.fills filled.replies c.check-verdict.ensures.tells
