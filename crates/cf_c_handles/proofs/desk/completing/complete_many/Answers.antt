use Rattle.std.proofs.Common.{refl}
use Rattle.cf_c_handles.proofs.DeskSteps.{many_at}
use Rattle.cf_c_handles.proofs.desk.completing.complete_many.Goals as goal

pub returns : goal.returns
returns c = many_at c.args.held.now c.in-Caller.caller _ c.deref.result.now c.args.given.now c.args.done.now c.complete_row.new.done c.complete_row.result c.in-Caller.is refl c.deref.ensures c.complete_row.ensures.same c.complete_row.ensures.row
