use Rattle.std.proofs.Common.{Some, subst, sym}
use Rattle.std_alloc.specs.Box.{with_value}
use Rattle.cf_c_handles.specs.Hosts.{OfHost, Wants}
use Rattle.cf_c_handles.specs.declared.handle.object.Object.TheVariants.{Host}
use Rattle.cf_c_handles.proofs.Hosts.{asks}
use Rattle.cf_c_handles.proofs.host.calling.want.Goals as goal

pub returns : goal.returns
returns c =
    let Asks = Wants (Some 0) c.args.request c.args.stage in
    subst (λ held. OfHost Asks held c.want_in.result (Host (with_value c.in-Host.host c.want_in.new.host))) (sym c.in-Host.is)
    (asks Asks c.in-Host.host c.want_in.result c.want_in.new.host (subst (λ h. Asks h c.want_in.result c.want_in.new.host) c.deref_mut.ensures.value c.want_in.ensures))
