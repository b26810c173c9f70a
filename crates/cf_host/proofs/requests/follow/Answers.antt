use Rattle.std.proofs.Common.{List, refl, subst}
use Rattle.cf_host.specs.Requests.{IsAt}
use Rattle.cf_host.specs.Requests.Follows.{known}
use Rattle.cf_host.specs.declared.request.Request.{Request}
use Rattle.cf_host.proofs.requests.follow.Goals as goal

pub returns-in-Some-clause-ok : goal.returns-in-Some-clause-ok
returns-in-Some-clause-ok c =
    known c.in-Some._place (subst (λ (l : List Request). IsAt c.args.number c.in-Some._place l) c.deref.ensures.value c.in-Some.ensures.is) refl
