use Rattle.std.proofs.Common.{rules, refl}
use Rattle.cf_model.specs.declared.asks.Ask.TheVariants.{Now as AsksNow}
use Rattle.cf_c_handles.specs.Desks.{Reads, told_now}
use Rattle.cf_c_handles.proofs.Callers.{at_caller}
use Rattle.cf_c_handles.proofs.desk.caller.now.Goals as goal

pub returns-in-Ok : goal.returns-in-Ok
returns-in-Ok c = at_caller (Reads told_now (AsksNow c.args.stage c.args.absent)) c.args.held.now c.in-Caller.caller _ _ c.in-Caller.is (record { desk = refl; pass = c.read.ensures.same }) (search rules)

pub returns-in-Err : goal.returns-in-Err
returns-in-Err c = at_caller (Reads told_now (AsksNow c.args.stage c.args.absent)) c.args.held.now c.in-Caller.caller _ _ c.in-Caller.is (record { desk = refl; pass = c.read.ensures.same }) (search rules)
