use Rattle.std.proofs.Common.{ℕ, ◌∙◌, ap, refl, subst, sym}
use Rattle.cf_part.specs.Parts.{opened}
use Rattle.cf_turn.specs.Works.{Work, new_work}
use Rattle.cf_host.specs.declared.ticket.Asked.TheVariants.{Open as OfOpen}
use Rattle.cf_host.specs.Hosts.{Host, IsOpened}
use Rattle.cf_host.specs.Requests.{Begins, IsShutAt}
use Rattle.cf_host.proofs.Placed.{answers, shut_at}
use Rattle.cf_host.proofs.host.Host.opened.Goals as goal

pub returns-clause-ok : goal.returns-clause-ok
returns-clause-ok c =
    let plan = c.args.plan.now in
    let notes = c.args.notes.now in
    let place = c.in_ok-place.place in
    let x = c.index_mut.result.now in
    let after = c.begin.new.self in
    let session = ap (λ (h : Host). h.session) c.self.view_is in
    let part = c.in-Ok.ensures ∙ ap (λ (s : ℕ). opened plan notes c.args.room s 0 c.args.is_flow) session in
    answers OfOpen (IsOpened c.args.self.now.session plan notes c.args.room c.args.is_flow) c.args.ticket place c.args.self.now _ _ x after c.self.view_is c.in_ok-place.ensures.is
    c.index_mut.ensures.value
    (record {
      fresh = shut_at place _ x (subst (λ (h : Host). IsShutAt place h.requests) (sym c.self.view_is) c.in_ok-place.ensures.shut) c.index_mut.ensures.value;
      begins = subst (λ (w : Work). Begins w x after) (c.new-2.ensures ∙ ap new_work part) c.begin.ensures;
    })
    c.close.ensures refl
