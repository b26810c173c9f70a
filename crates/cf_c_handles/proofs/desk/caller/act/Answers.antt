use Rattle.std.proofs.Common.{rules, refl}
use Rattle.cf_c_handles.specs.Desks.{Acts}
use Rattle.cf_c_handles.proofs.Callers.{at_caller}
use Rattle.cf_c_handles.proofs.desk.caller.act.Goals as goal

pub returns-in-Err : goal.returns-in-Err
returns-in-Err c = at_caller (Acts c.args.call) c.args.held.now c.in-Caller.caller c.in-Caller.caller _ c.in-Caller.is (search rules) (rw c.in-Err.is (refl, refl))

pub returns-in-Ok-act : goal.returns-in-Ok-act
returns-in-Ok-act c = at_caller (Acts c.args.call) c.args.held.now c.in-Caller.caller _ _ c.in-Caller.is (record { desk = refl; pass = c.act.ensures.same }) (rw c.in-Ok.is (search rules))

pub returns-in-Err-act : goal.returns-in-Err-act
returns-in-Err-act c = at_caller (Acts c.args.call) c.args.held.now c.in-Caller.caller _ _ c.in-Caller.is (record { desk = refl; pass = c.act.ensures.same }) (rw c.in-Ok.is (search rules))
