use Rattle.std.proofs.Common.{sym, subst}
use Rattle.cf_model.specs.States.{State}
use Rattle.cf_event.specs.Events.{AreEventsOf}
use Rattle.cf_history.proofs.Words.{not_events}
use Rattle.cf_history.proofs.filling.all_fit.Goals as goal

pub returns-in-Some : goal.returns-in-Some
returns-in-Some c = (
  λ fit. cc,
  λ are. absurd (not_events c.args.callers c.args.functions c.in_ok-graph.graph.state c.in-Some._k c.args.events.now c.in-Some._why c.in-Some.ensures.found
      (subst (λ (s : State). AreEventsOf c.args.callers c.args.functions s c.args.events.now) (sym c.in_ok-graph.ensures.start) are)),
)
