use Rattle.std.proofs.Common.{refl}
use Rattle.cf_host.specs.Hosts.{IsDropped}
use Rattle.cf_host.specs.declared.ticket.Asked.TheVariants.{Open as OfOpen}
use Rattle.cf_host.proofs.Placed.{answers}
use Rattle.cf_host.proofs.host.Host.lose_plan.Goals as goal

pub returns-clause-ok : goal.returns-clause-ok
returns-clause-ok c =
    answers OfOpen IsDropped c.args.ticket c.in_ok-place.place c.args.self.now _ _ c.index_mut.result.now c.lose.new.self c.self.view_is c.in_ok-place.ensures.is
    c.index_mut.ensures.value c.lose.ensures c.close.ensures refl
