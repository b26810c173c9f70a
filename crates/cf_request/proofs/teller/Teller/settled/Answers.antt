use Rattle.std.proofs.Common.{◌++◌, ◌∙◌, subst, sym, ap, take-append-drop, vec_capacity}
use Rattle.cf_ledger.specs.Ledgers.{state_of}
use Rattle.cf_request.specs.Telling.{IsOnce, Teller}
use Rattle.cf_request.proofs.Telling.{once_kept}
use Rattle.cf_request.proofs.teller.Teller.settled.Goals as goal

pub returns-clause-order : goal.returns-clause-order
returns-clause-order c =
    let t = c.self.inside in
    c.deref.ensures.value ∙ sym (take-append-drop t.count t.order.items) ∙ ap (λ (x : Teller). x.taken ++ x.told) c.self.view_is

pub returns-clause-once : goal.returns-clause-once
returns-clause-once c =
    let t = c.self.inside in
    subst (λ (x : Teller). IsOnce (state_of x.ledger) (x.taken ++ x.told)) c.self.view_is (once_kept t.ledger t.order.items (vec_capacity t.order) t.count c.self.invariant.0)
