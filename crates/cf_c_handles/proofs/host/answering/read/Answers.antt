use Rattle.std.proofs.Common.{subst, sym}
use Rattle.std_alloc.specs.Box.{with_value}
use Rattle.cf_c_handles.specs.HostAnswers.{TakesRows}
use Rattle.cf_c_handles.specs.Hosts.{OfHost}
use Rattle.cf_c_handles.specs.declared.handle.object.Object.TheVariants.{Host}
use Rattle.cf_c_handles.proofs.Hosts.{asks}
use Rattle.cf_c_handles.proofs.host.answering.read.Goals as goal

pub returns : goal.returns
returns c =
    let Asks = TakesRows c.args.now c.args.ticket c.args.rows.now in
    subst (λ held. OfHost Asks held c.read_in.result (Host (with_value c.in-Host.host c.read_in.new.host))) (sym c.in-Host.is)
    (asks Asks c.in-Host.host c.read_in.result c.read_in.new.host (subst (λ h. Asks h c.read_in.result c.read_in.new.host) c.deref_mut.ensures.value c.read_in.ensures))
