use Rattle.std.proofs.Common.{refl}
use Rattle.cf_host.proofs.Ordering.{opens_first}
use Rattle.cf_host.proofs.host.Host.open.Goals as goal

pub returns-clause-orders : goal.returns-clause-orders
returns-clause-orders c =
    opens_first c.args.self.now _ _ c.args.now c.in_ok-place.place c.index.result.now c.index_mut.result.now c.open-ticket.result _ c.self.view_is c.requires.beats c.requires.news
    c.deref.ensures.value c.in_ok-place.ensures.is c.in_ok-place.ensures.first c.index.ensures c.index_mut.ensures.value c.open-ticket.ensures.opens c.open-ticket.ensures.of
    c.open-ticket.ensures.asked refl
