use Rattle.std.proofs.Common.{subst, sym}
use Rattle.std_alloc.specs.Box.{with_value}
use Rattle.cf_c_handles.specs.Hosts.{Follows, OfHost}
use Rattle.cf_c_handles.specs.declared.handle.object.Object.TheVariants.{Host}
use Rattle.cf_c_handles.proofs.Hosts.{asks}
use Rattle.cf_c_handles.proofs.host.calling.follow.Goals as goal

pub returns : goal.returns
returns c =
    let Asks = Follows c.args.request in
    subst (λ held. OfHost Asks held c.follow_in.result (Host (with_value c.in-Host.host c.follow_in.new.host))) (sym c.in-Host.is)
    (asks Asks c.in-Host.host c.follow_in.result c.follow_in.new.host (subst (λ h. Asks h c.follow_in.result c.follow_in.new.host) c.deref_mut.ensures.value c.follow_in.ensures))
