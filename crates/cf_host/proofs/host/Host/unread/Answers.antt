use Rattle.std.proofs.Common.{Some, refl}
use Rattle.cf_host.specs.Asking.{Wanting}
use Rattle.cf_part.specs.Parts.{later}
use Rattle.cf_host.proofs.Placed.{on_request}
use Rattle.cf_host.proofs.Refused.{lacks_stage}
use Rattle.cf_host.proofs.host.Host.unread.Goals as goal

pub returns-clause-ok : goal.returns-clause-ok
returns-clause-ok c =
    on_request (Wanting c.args.stage (Some (later c.args.now))) c.args.request c.in_ok-place.place c.args.self.now _ _ c.index_mut.result.now c.unread.new.self c.self.view_is
    c.in_ok-place.ensures.at c.index_mut.ensures.value c.unread.ensures refl

pub returns-then-not-has_place-clause-why : goal.returns-then-not-has_place-clause-why
returns-then-not-has_place-clause-why c =
    lacks_stage c.args.request c.args.stage c.in_ok-place.place c.args.self.now _ c.index.result.now c.self.view_is c.in_ok-place.ensures.at c.in_ok-place.ensures.opened c.index.ensures
    c.if-not-has_place.ensures.none
