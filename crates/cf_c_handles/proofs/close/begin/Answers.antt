use Rattle.std.proofs.Common.{subst, sym}
use Rattle.cf_c_handles.specs.Closings.{Begins}
use Rattle.cf_c_handles.specs.declared.handle.object.Object.{Object}
use Rattle.cf_c_handles.proofs.close.begin.Goals as goal

pub returns : goal.returns
returns c = subst (λ (h : Object). Begins c.args.held.now c.begun-now.result.1 h) (sym c.hold.ensures)
    (subst (λ (h : Object). Begins h c.begun-now.result.1 c.begun-now.result.0) c.take.ensures c.begun-now.ensures)
