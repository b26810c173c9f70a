use Rattle.std.proofs.Common.{List, ◌∙◌, ap, set, subst, sym}
use Rattle.cf_host.specs.Requests.{IsAt, hears}
use Rattle.cf_host.specs.Requests.Hears.{known}
use Rattle.cf_host.specs.declared.request.Request.{Request}
use Rattle.cf_host.proofs.Placed.{same_at}
use Rattle.cf_host.proofs.requests.hear.Goals as goal

pub returns-in-Some-clause-hears : goal.returns-in-Some-clause-hears
returns-in-Some-clause-hears c =
    let items = c.args.requests.now.items in
    let place = c.in-Some.place in
    let told = c.args.told in
    let at = subst (λ (l : List Request). IsAt told.request place l) c.deref.ensures.value c.in-Some.ensures.is in
    let same = same_at told.request place items c.index_mut.result.now at c.index_mut.ensures.value in
    known place at (ap (λ (r : Request). set items place r) (c.hears.ensures ∙ ap (λ (r : Request). hears told.words r) same))
