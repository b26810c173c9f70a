use Rattle.std.proofs.Common.{rules, refl}
use Rattle.cf_c_handles.specs.Desks.{Joins}
use Rattle.cf_c_handles.proofs.Callers.{at_caller}
use Rattle.cf_c_handles.proofs.desk.caller.join.Goals as goal

pub returns-in-Ok : goal.returns-in-Ok
returns-in-Ok c = at_caller (Joins c.args.stage c.args.looks) c.args.held.now c.in-Caller.caller _ _ c.in-Caller.is (record { desk = refl; pass = c.join.ensures.same }) (search rules)

pub returns-in-Err : goal.returns-in-Err
returns-in-Err c = at_caller (Joins c.args.stage c.args.looks) c.args.held.now c.in-Caller.caller _ _ c.in-Caller.is (record { desk = refl; pass = c.join.ensures.same }) (search rules)
