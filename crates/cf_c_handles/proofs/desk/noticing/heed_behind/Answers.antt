use Rattle.std.proofs.Common.{subst}
use Rattle.std.specs.Prelude.{Some}
use Rattle.cf_c_handles.specs.Notices.{IsOfItsDesk}
use Rattle.cf_c_handles.specs.declared.handle.object.Object.{Object}
use Rattle.cf_c_handles.proofs.Callers.{at_heeds}
use Rattle.cf_c_handles.proofs.desk.noticing.heed_behind.Goals as goal

pub heed_from-requires : goal.heed_from-requires
heed_from-requires c = subst (λ (h : Object). IsOfItsDesk (Some h) c.args.from.now.inner.held) c.in-Caller.is c.requires

pub returns-in-Caller : goal.returns-in-Caller
returns-in-Caller c =
    at_heeds c.args.held.now c.in-Caller.caller c.heed_from.new.caller c.args.from.now.inner.held c.heed_from.new.from.inner.held c.heed_from.result c.in-Caller.is c.heed_from.ensures
