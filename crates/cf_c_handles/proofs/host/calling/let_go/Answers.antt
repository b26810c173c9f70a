use Rattle.std.proofs.Common.{None, subst, sym}
use Rattle.std_alloc.specs.Box.{with_value}
use Rattle.cf_c_handles.specs.Hosts.{OfHost, Wants}
use Rattle.cf_c_handles.specs.declared.handle.object.Object.TheVariants.{Host}
use Rattle.cf_c_handles.proofs.Hosts.{asks}
use Rattle.cf_c_handles.proofs.host.calling.let_go.Goals as goal

pub returns : goal.returns
returns c =
    let Asks = Wants None c.args.request c.args.stage in
    subst (λ held. OfHost Asks held c.let_go_in.result (Host (with_value c.in-Host.host c.let_go_in.new.host))) (sym c.in-Host.is)
    (asks Asks c.in-Host.host c.let_go_in.result c.let_go_in.new.host (subst (λ h. Asks h c.let_go_in.result c.let_go_in.new.host) c.deref_mut.ensures.value c.let_go_in.ensures))
