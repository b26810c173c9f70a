use Rattle.std.proofs.Common.{rules}
use Rattle.cf_c_handles.specs.Desks.{Knows, function_known}
use Rattle.cf_c_handles.proofs.Callers.{at_caller}
use Rattle.cf_c_handles.proofs.desk.caller.function.Goals as goal

pub returns-then-not-has : goal.returns-then-not-has
returns-then-not-has c = at_caller (Knows (function_known c.args.stage)) c.args.held.now c.in-Caller.caller c.in-Caller.caller _ c.in-Caller.is (search rules) (search rules)

pub returns : goal.returns
returns c = at_caller (Knows (function_known c.args.stage)) c.args.held.now c.in-Caller.caller c.in-Caller.caller _ c.in-Caller.is (search rules) (search rules)
