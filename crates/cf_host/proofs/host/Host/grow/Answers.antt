use Rattle.std.proofs.Common.{refl}
use Rattle.cf_host.specs.Asking.{Growing}
use Rattle.cf_host.proofs.Placed.{on_request}
use Rattle.cf_host.proofs.Refused.{has_places, lacks_places}
use Rattle.cf_host.proofs.host.Host.grow.Goals as goal

pub returns-clause-ok : goal.returns-clause-ok
returns-clause-ok c =
    on_request (Growing c.args.more) c.args.request c.in_ok-place.place c.args.self.now _ _ c.index_mut.result.now c.grow.new.self c.self.view_is
    c.in_ok-place.ensures.at c.index_mut.ensures.value c.in-Ok.ensures.ok refl

pub returns-then-not-has_places-clause-why : goal.returns-then-not-has_places-clause-why
returns-then-not-has_places-clause-why c =
    lacks_places c.args.request c.args.more c.in_ok-place.place c.args.self.now _ c.index.result.now c.self.view_is c.in_ok-place.ensures.at c.in_ok-place.ensures.opened c.index.ensures
    c.if-not-has_places.ensures.none

pub returns-in-Err-clause-why : goal.returns-in-Err-clause-why
returns-in-Err-clause-why c =
    has_places c.args.request c.args.more c.in_ok-place.place c.args.self.now _ c.index.result.now c.self.view_is c.in_ok-place.ensures.at c.index.ensures
    c.if-not-has_places.ensures.there
