use Rattle.std.proofs.Common.{refl}
use Rattle.cf_host.specs.Asking.{CallEnding}
use Rattle.cf_host.specs.Requests.{OnWork}
use Rattle.cf_host.specs.declared.ticket.Asked.TheVariants.{Call}
use Rattle.cf_host.proofs.Placed.{answers}
use Rattle.cf_host.proofs.Unfit.{not_running}
use Rattle.cf_host.proofs.host.Host.ended.Goals as goal

pub returns-clause-ok : goal.returns-clause-ok
returns-clause-ok c =
    let stage = c.in-Call.stage in
    record {
      stage = stage;
      ends = answers (λ request. Call request stage) (OnWork (CallEnding stage c.args.answer)) c.args.ticket c.in_ok-place.place c.args.self.now _ _ c.index_mut.result.now c.ended.new.self c.self.view_is
          (record { ticket = c.in_ok-asked.asked; request = c.in-Call.request; is = c.in_ok-asked.ensures.is; named = c.in-Call.is; at = c.in_ok-place.ensures.is })
          c.index_mut.ensures.value c.ended.ensures c.close.ensures refl;
    }

pub returns-then-not-is_running-clause-unfit : goal.returns-then-not-is_running-clause-unfit
returns-then-not-is_running-clause-unfit c =
    not_running c.args.self.now _ c.args.ticket c.in-Call.request c.in-Call.stage c.in_ok-place.place c.in_ok-asked.asked c.index.result.now c.self.view_is c.in_ok-asked.ensures.is c.in-Call.is
    c.in_ok-place.ensures.is c.index.ensures c.if-not-is_running.ensures.none
