use Rattle.std.proofs.Common.{rules, refl}
use Rattle.cf_c_handles.specs.Desks.{FindsReady}
use Rattle.cf_c_handles.proofs.Callers.{at_caller}
use Rattle.cf_c_handles.proofs.desk.caller.ready.Goals as goal

pub returns : goal.returns
returns c = at_caller FindsReady c.args.held.now c.in-Caller.caller _ _ c.in-Caller.is (record { desk = refl; pass = search rules }) (search rules)
