use Rattle.std.proofs.Common.{List, subst}
use Rattle.cf_host.specs.Requests.{IsAt}
use Rattle.cf_host.specs.declared.request.Request.{Request}
use Rattle.cf_host.proofs.Placed.{shown}
use Rattle.cf_host.proofs.host.Host.part.Goals as goal

pub returns-clause-some : goal.returns-clause-some
returns-clause-some c =
    let place = c.in_ok-place.place in
    let at = subst (λ (l : List Request). IsAt c.args.request place l) c.deref.ensures.value c.in_ok-place.ensures.is in
    shown c.args.request place c.args.self.now _ c.index.result.now c.in_ok-part.part.now c.self.view_is at c.index.ensures c.in_ok-part.ensures.some
