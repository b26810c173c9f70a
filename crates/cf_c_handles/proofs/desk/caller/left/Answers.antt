use Rattle.std.proofs.Common.{rules}
use Rattle.cf_c_handles.specs.Desks.{IsLeft}
use Rattle.cf_c_handles.proofs.Callers.{at_caller}
use Rattle.cf_c_handles.proofs.desk.caller.left.Goals as goal

pub returns : goal.returns
returns c = at_caller IsLeft c.args.held.now c.in-Caller.caller c.in-Caller.caller _ c.in-Caller.is (search rules) (search rules)
