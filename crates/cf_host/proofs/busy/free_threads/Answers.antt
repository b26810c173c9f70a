use Rattle.std.proofs.Common.{ℕ, ◌+◌, List, arith, refl, subst, sym}
use Rattle.std.proofs.lemmas.List.{drop_all}
use Rattle.cf_host.specs.declared.request.Request.{Request}
use Rattle.cf_host.specs.Busy.{AreBusy, TakesIn}
use Rattle.cf_host.proofs.Counted.{busy_more}
use Rattle.cf_host.proofs.busy.free_threads.Goals as goal

pub loop-request-preserved : goal.loop-request-preserved
loop-request-preserved c = λ rest are.
    let x = c.request-item.result in
    let t = c.free_of-free.ensures in
    let here = subst (λ (r : Request). TakesIn r.work t.0) c.request-item.is t.1 in
    let h = c.loop-request.invariant (t.0 + rest) (busy_more c.args.requests.now c.loop-request.request-index t.0 rest x (omega arith) here are) in
    let mine = t.2 in
    let all = h.2 in
    (h.0, h.1, omega (arith, mine, all))

pub returns : goal.returns
returns c =
    let requests = c.args.requests.now in
    let h = c.loop-request.invariant 0 (subst (λ (l : List Request). AreBusy l 0) (sym (drop_all c.loop-request.request-index requests (omega arith))) refl) in
    let all = h.2 in
    record { busy = h.0; are = h.1; is = omega (arith, all) }
