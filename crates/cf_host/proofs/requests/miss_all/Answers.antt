use Rattle.std.proofs.Common.{◌≡◌, ℕ, ◌<◌, ◌∙◌, ap, arith, get_or, length, set}
use Rattle.std.proofs.lemmas.List.{get_or_default}
use Rattle.std.proofs.lemmas.List.Edits.{map_over_more}
use Rattle.cf_host.specs.declared.request.Request.{Request}
use Rattle.cf_host.specs.Requests.{missed}
use Rattle.cf_host.proofs.requests.miss_all.Goals as goal

pub loop-request-preserved : goal.loop-request-preserved
loop-request-preserved c =
    let ys = c.loop-request.requests in
    let i = c.loop-request.request-index in
    let x = get_or ys i c.request-item.result in
    let within : i < length ys = omega arith in
    ap (λ (r : Request). set ys i r) c.miss.ensures ∙
    map_over_more (missed c.args.lengths.now) c.args.requests.now ys i x (omega arith) c.loop-request.invariant (get_or_default ys i c.request-item.result x within)
