use Rattle.std.proofs.Common.{subst, sym}
use Rattle.std_alloc.specs.Box.{with_value}
use Rattle.cf_c_handles.specs.Hosts.{GrowsIn, OfHost}
use Rattle.cf_c_handles.specs.declared.handle.object.Object.TheVariants.{Host}
use Rattle.cf_c_handles.proofs.Hosts.{asks}
use Rattle.cf_c_handles.proofs.host.calling.grow.Goals as goal

pub returns : goal.returns
returns c =
    let Asks = GrowsIn c.args.request c.args.more in
    subst (λ held. OfHost Asks held c.grow_in.result (Host (with_value c.in-Host.host c.grow_in.new.host))) (sym c.in-Host.is)
    (asks Asks c.in-Host.host c.grow_in.result c.grow_in.new.host (subst (λ h. Asks h c.grow_in.result c.grow_in.new.host) c.deref_mut.ensures.value c.grow_in.ensures))
