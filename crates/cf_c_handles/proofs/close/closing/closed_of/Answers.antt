use Rattle.cf_c_handles.proofs.ClosedLemmas.{history_has, passes_have}
use Rattle.cf_c_handles.proofs.close.closing.closed_of.Goals as goal

pub invariant_of-result-clause-events : goal.invariant_of-result-clause-events
invariant_of-result-clause-events c = history_has c.args.desk.setting c.in-Ok.closed.history.items c.in-Ok.ensures.history.events

pub invariant_of-result-clause-calls : goal.invariant_of-result-clause-calls
invariant_of-result-clause-calls c =
    let h = history_has c.args.desk.setting c.in-Ok.closed.history.items c.in-Ok.ensures.history.events in
    passes_have c.args.desk.setting.plan c.in-Ok.closed.history.items c.in-Ok.closed.passes.items h c.in-Ok.ensures.fit.each
