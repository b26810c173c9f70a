use Rattle.cf_forms.specs.Plans.{with_room}
use Rattle.cf_history.proofs.Fillings.{fits_as_any}
use Rattle.cf_history.proofs.filling.fill_in.Goals as goal

pub returns-clause-fits : goal.returns-clause-fits
returns-clause-fits c =
    fits_as_any (with_room c.args.plan.now c.args.room) c.args.shared c.in_ok-history.history c.in_ok-history.ensures.fills c.in_ok-history.ensures.replies
