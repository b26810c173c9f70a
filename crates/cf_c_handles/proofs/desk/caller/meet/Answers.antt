use Rattle.cf_c_handles.proofs.Callers.{are_met}
use Rattle.cf_c_handles.proofs.desk.caller.meet.Goals as goal

pub returns : goal.returns
returns c = are_met c.args.held.now c.args.given.now c.in-Caller.caller c.in-Caller-given.other c.meet.new.self c.meet.new.other c.meet.result c.in-Caller.is c.in-Caller-given.is c.meet.ensures
