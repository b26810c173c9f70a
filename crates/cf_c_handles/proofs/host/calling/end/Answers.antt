use Rattle.std.proofs.Common.{subst, sym}
use Rattle.std_alloc.specs.Box.{with_value}
use Rattle.cf_c_handles.specs.Hosts.{EndsRequest, OfHost}
use Rattle.cf_c_handles.specs.declared.handle.object.Object.TheVariants.{Host}
use Rattle.cf_c_handles.proofs.Hosts.{asks}
use Rattle.cf_c_handles.proofs.host.calling.end.Goals as goal

pub returns : goal.returns
returns c =
    let Asks = EndsRequest c.args.now c.args.request in
    subst (λ held. OfHost Asks held c.end_in.result (Host (with_value c.in-Host.host c.end_in.new.host))) (sym c.in-Host.is)
    (asks Asks c.in-Host.host c.end_in.result c.end_in.new.host (subst (λ h. Asks h c.end_in.result c.end_in.new.host) c.deref_mut.ensures.value c.end_in.ensures))
