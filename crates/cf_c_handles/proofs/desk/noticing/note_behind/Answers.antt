use Rattle.cf_c_handles.proofs.Callers.{at_notes}
use Rattle.cf_c_handles.proofs.desk.noticing.note_behind.Goals as goal

pub returns-in-Caller : goal.returns-in-Caller
returns-in-Caller c =
    at_notes c.args.held.now c.in-Caller.caller c.note_to.new.caller c.args.to.now.inner.held c.note_to.new.to.inner.held c.note_to.result c.in-Caller.is c.note_to.ensures.same c.note_to.ensures.notes
