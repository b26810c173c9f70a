use Rattle.cf_forms.specs.Plans.{with_room}
use Rattle.cf_model.specs.States.{start}
use Rattle.cf_event.proofs.Events.{events_fit}
use Rattle.cf_history.proofs.filling.replies_where_fit.Goals as goal

pub replies_anew-requires-clause-fits : goal.replies_anew-requires-clause-fits
replies_anew-requires-clause-fits c =
    events_fit c.args.callers c.args.functions (start (with_room c.args.plan.now c.args.room)) c.args.events.now (c.in_ok-all_fit.ensures.0 c.if-branch.true)
