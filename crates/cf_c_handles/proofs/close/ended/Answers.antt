use Rattle.std.proofs.Common.{subst, sym}
use Rattle.cf_c_handles.specs.Closings.{Ends}
use Rattle.cf_c_handles.specs.declared.handle.object.Object.{Object}
use Rattle.cf_c_handles.proofs.close.ended.Goals as goal

pub returns-in-Closing : goal.returns-in-Closing
returns-in-Closing c = subst (λ (h : Object). Ends h c.end_closing.result.1 c.end_closing.result.0) (sym c.in-Closing.is) c.end_closing.ensures
