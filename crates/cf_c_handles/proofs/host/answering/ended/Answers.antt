use Rattle.std.proofs.Common.{subst, sym}
use Rattle.std_alloc.specs.Box.{with_value}
use Rattle.cf_c_handles.specs.HostAnswers.{TakesEnd}
use Rattle.cf_c_handles.specs.HostValues.{ends_of}
use Rattle.cf_c_handles.specs.Hosts.{OfHost}
use Rattle.cf_c_handles.specs.declared.handle.object.Object.TheVariants.{Host}
use Rattle.cf_c_handles.proofs.Hosts.{asks}
use Rattle.cf_c_handles.proofs.host.answering.ended.Goals as goal

pub returns : goal.returns
returns c =
    let Asks = TakesEnd (ends_of c.args.kind c.args.code c.args.stage) c.args.ticket in
    let asked = subst (λ h. TakesEnd c.ends_of-ends.result c.args.ticket h c.ended_in.result c.ended_in.new.host) c.deref_mut.ensures.value c.ended_in.ensures in
    subst (λ held. OfHost Asks held c.ended_in.result (Host (with_value c.in-Host.host c.ended_in.new.host))) (sym c.in-Host.is)
    (asks Asks c.in-Host.host c.ended_in.result c.ended_in.new.host (subst (λ it. TakesEnd it c.args.ticket c.in-Host.host.value c.ended_in.result c.ended_in.new.host) c.ends_of-ends.ensures asked))
