use Rattle.std.proofs.Common.{subst, sym}
use Rattle.std_alloc.specs.Box.{with_value}
use Rattle.cf_c_handles.specs.HostAnswers.{TakesBeats}
use Rattle.cf_c_handles.specs.Hosts.{OfHost}
use Rattle.cf_c_handles.specs.declared.handle.object.Object.TheVariants.{Host}
use Rattle.cf_c_handles.proofs.Hosts.{asks}
use Rattle.cf_c_handles.proofs.host.answering.beats.Goals as goal

pub returns : goal.returns
returns c =
    let Asks = TakesBeats c.args.now c.args.ticket c.args.clock c.args.beats.now in
    subst (λ held. OfHost Asks held c.beats_in.result (Host (with_value c.in-Host.host c.beats_in.new.host))) (sym c.in-Host.is)
    (asks Asks c.in-Host.host c.beats_in.result c.beats_in.new.host (subst (λ h. Asks h c.beats_in.result c.beats_in.new.host) c.deref_mut.ensures.value c.beats_in.ensures))
