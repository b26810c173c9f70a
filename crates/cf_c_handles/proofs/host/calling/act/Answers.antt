use Rattle.std.proofs.Common.{subst, sym}
use Rattle.std_alloc.specs.Box.{with_value}
use Rattle.cf_c_handles.specs.HostValues.{act_of}
use Rattle.cf_c_handles.specs.Hosts.{Acts, OfHost}
use Rattle.cf_c_handles.specs.declared.handle.object.Object.TheVariants.{Host}
use Rattle.cf_c_handles.proofs.Hosts.{asks}
use Rattle.cf_c_handles.proofs.host.calling.act.Goals as goal

pub returns : goal.returns
returns c =
    let Asks = Acts c.args.now c.args.request (act_of c.args.asked.now) in
    let asked = subst (λ h. Acts c.args.now c.args.request c.act_of-act.result h c.act_in.result c.act_in.new.host) c.deref_mut.ensures.value c.act_in.ensures in
    subst (λ held. OfHost Asks held c.act_in.result (Host (with_value c.in-Host.host c.act_in.new.host))) (sym c.in-Host.is)
    (asks Asks c.in-Host.host c.act_in.result c.act_in.new.host (subst (λ it. Acts c.args.now c.args.request it c.in-Host.host.value c.act_in.result c.act_in.new.host) c.act_of-act.ensures asked))
