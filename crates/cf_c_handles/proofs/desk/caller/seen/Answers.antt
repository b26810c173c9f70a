use Rattle.std.proofs.Common.{rules}
use Rattle.cf_c_handles.specs.Desks.{Knows, seen_told}
use Rattle.cf_c_handles.proofs.Callers.{at_caller}
use Rattle.cf_c_handles.proofs.desk.caller.seen.Goals as goal

pub returns : goal.returns
returns c = at_caller (Knows seen_told) c.args.held.now c.in-Caller.caller c.in-Caller.caller _ c.in-Caller.is (search rules) (search rules)
