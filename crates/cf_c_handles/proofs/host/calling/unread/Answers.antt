use Rattle.std.proofs.Common.{Some, subst, sym}
use Rattle.std_alloc.specs.Box.{with_value}
use Rattle.cf_part.specs.Parts.{later}
use Rattle.cf_c_handles.specs.Hosts.{OfHost, Wants}
use Rattle.cf_c_handles.specs.declared.handle.object.Object.TheVariants.{Host}
use Rattle.cf_c_handles.proofs.Hosts.{asks}
use Rattle.cf_c_handles.proofs.host.calling.unread.Goals as goal

pub returns : goal.returns
returns c =
    let Asks = Wants (Some (later c.args.now)) c.args.request c.args.stage in
    subst (λ held. OfHost Asks held c.unread_in.result (Host (with_value c.in-Host.host c.unread_in.new.host))) (sym c.in-Host.is)
    (asks Asks c.in-Host.host c.unread_in.result c.unread_in.new.host (subst (λ h. Asks h c.unread_in.result c.unread_in.new.host) c.deref_mut.ensures.value c.unread_in.ensures))
