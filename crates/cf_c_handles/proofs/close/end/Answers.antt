use Rattle.std.proofs.Common.{subst, sym}
use Rattle.cf_c_handles.specs.Closings.{Ends}
use Rattle.cf_c_handles.specs.declared.handle.object.Object.{Object}
use Rattle.cf_c_handles.proofs.close.end.Goals as goal

pub returns : goal.returns
returns c = subst (λ (h : Object). Ends c.args.held.now c.ended-now.result.1 h) (sym c.hold.ensures)
    (subst (λ (h : Object). Ends h c.ended-now.result.1 c.ended-now.result.0) c.take.ensures c.ended-now.ensures)
