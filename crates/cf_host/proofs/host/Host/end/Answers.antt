use Rattle.std.proofs.Common.{ℕ, refl, subst}
use Rattle.cf_host.specs.Asking.{Ending}
use Rattle.cf_host.specs.Pulses.{later_by}
use Rattle.cf_host.specs.Requests.{OnWork}
use Rattle.cf_host.proofs.Placed.{on_request_for}
use Rattle.cf_host.proofs.Refused.{full_in}
use Rattle.cf_host.proofs.host.Host.end.Goals as goal

pub returns-clause-ok : goal.returns-clause-ok
returns-clause-ok c =
    let number = c.next-number.result in
    let calls = subst (λ (t : ℕ). OnWork (Ending number t) c.index_mut.result.now c.ends.new.self) c.saturating_add-until.ensures c.in-Ok.ensures.ok in
    on_request_for (λ n. Ending n (later_by 60000 c.args.now)) c.args.request c.args.now number c.in_ok-place.place c.args.self.now c.reserve.new.self _ _ c.index_mut.result.now c.ends.new.self
    c.open-ticket.result c.in_ok-reserve.ensures.ok c.self.view_is c.in_ok-place.ensures.at c.index_mut.ensures.value c.next-number.ensures calls c.open-ticket.ensures.opens c.open-ticket.ensures.of c.open-ticket.ensures.asked refl

pub returns-in-Err-clause-short : goal.returns-in-Err-clause-short
returns-in-Err-clause-short c =
    λ e. full_in c.args.request c.in_ok-place.place c.args.self.now c.reserve.new.self _ c.index_mut.result.now c.in_ok-reserve.ensures.ok c.self.view_is c.in_ok-place.ensures.at
    c.index_mut.ensures.value c.in-Err.ensures.short
