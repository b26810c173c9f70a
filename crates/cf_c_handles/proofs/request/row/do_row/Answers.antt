use Rattle.std.proofs.Common.{arith}
use Rattle.cf_c_handles.proofs.RequestRows.{row_more}
use Rattle.cf_c_handles.proofs.request.row.do_row.Goals as goal

pub each-preserved : goal.each-preserved
each-preserved c =
    row_more c.args.machine.now c.args.calls.now c.each.k c.each.machine c.do_call.new.machine c.each.calls _ c.do_call.new.call c.each.invariant (omega arith) c.in_default.ensures
