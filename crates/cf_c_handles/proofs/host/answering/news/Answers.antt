use Rattle.std.proofs.Common.{subst, sym}
use Rattle.std_alloc.specs.Box.{with_value}
use Rattle.cf_c_handles.specs.HostAnswers.{TakesNews}
use Rattle.cf_c_handles.specs.Hosts.{OfHost}
use Rattle.cf_c_handles.specs.declared.handle.object.Object.TheVariants.{Host}
use Rattle.cf_c_handles.proofs.Hosts.{asks}
use Rattle.cf_c_handles.proofs.host.answering.news.Goals as goal

pub returns : goal.returns
returns c =
    let Asks = TakesNews c.args.now c.args.ticket c.args.mark c.args.lengths.now in
    subst (λ held. OfHost Asks held c.news_in.result (Host (with_value c.in-Host.host c.news_in.new.host))) (sym c.in-Host.is)
    (asks Asks c.in-Host.host c.news_in.result c.news_in.new.host (subst (λ h. Asks h c.news_in.result c.news_in.new.host) c.deref_mut.ensures.value c.news_in.ensures))
