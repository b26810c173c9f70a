use Rattle.std.proofs.Common.{subst, sym}
use Rattle.std.specs.Prelude.{Some}
use Rattle.cf_c_handles.specs.Closings.{AreOfOneDesk, Returns}
use Rattle.cf_c_handles.specs.declared.handle.object.Object.{Object}
use Rattle.cf_c_handles.specs.declared.handle.object.Object.TheVariants.{Closing}
use Rattle.cf_c_handles.proofs.close.add.Goals as goal

pub add_from-requires : goal.add_from-requires
add_from-requires c = subst (λ (h : Object). AreOfOneDesk (Some h) c.args.caller.now.inner.held) c.in-Closing.is c.requires

pub returns-in-Closing : goal.returns-in-Closing
returns-in-Closing c = subst (λ (h : Object). Returns c.args.caller.now.inner.held c.add_from.new.caller.inner.held h c.add_from.result (Closing c.add_from.new.closing)) (sym c.in-Closing.is) c.add_from.ensures
