use Rattle.std.proofs.Common.{subst, sym}
use Rattle.std_alloc.specs.Box.{with_value}
use Rattle.cf_c_handles.specs.HostAnswers.{TakesPlain, plain_numbered}
use Rattle.cf_c_handles.specs.Hosts.{OfHost}
use Rattle.cf_c_handles.specs.declared.handle.object.Object.TheVariants.{Host}
use Rattle.cf_c_handles.proofs.Hosts.{asks}
use Rattle.cf_c_handles.proofs.host.answering.answer.Goals as goal

pub returns : goal.returns
returns c =
    let Asks = TakesPlain (plain_numbered c.args.number) c.args.now c.args.ticket in
    let asked = subst (λ h. TakesPlain c.plain_numbered-plain.result c.args.now c.args.ticket h c.answer_in.result c.answer_in.new.host) c.deref_mut.ensures.value c.answer_in.ensures in
    subst (λ held. OfHost Asks held c.answer_in.result (Host (with_value c.in-Host.host c.answer_in.new.host))) (sym c.in-Host.is)
    (asks Asks c.in-Host.host c.answer_in.result c.answer_in.new.host (subst (λ it. TakesPlain it c.args.now c.args.ticket c.in-Host.host.value c.answer_in.result c.answer_in.new.host) c.plain_numbered-plain.ensures asked))
