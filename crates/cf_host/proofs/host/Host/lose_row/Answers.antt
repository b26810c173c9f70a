use Rattle.std.proofs.Common.{refl}
use Rattle.cf_host.specs.Answering.{Breaking}
use Rattle.cf_host.specs.declared.ticket.Asked.TheVariants.{Row as OfRow}
use Rattle.cf_host.specs.Requests.{OnWork}
use Rattle.cf_host.proofs.Placed.{answers}
use Rattle.cf_host.proofs.host.Host.lose_row.Goals as goal

pub returns-clause-ok : goal.returns-clause-ok
returns-clause-ok c =
    answers OfRow (OnWork Breaking) c.args.ticket c.in_ok-place.place c.args.self.now _ _ c.index_mut.result.now c.dropped.new.self c.self.view_is c.in_ok-place.ensures.is
    c.index_mut.ensures.value c.dropped.ensures c.close.ensures refl
