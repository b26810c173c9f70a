use Rattle.std.proofs.Common.{◌∙◌, sym}
use Rattle.cf_ledger.specs.Ledgers.{stages_of, state_of}
use Rattle.cf_request.specs.Joins.{IsDecided}
use Rattle.cf_request.specs.Telling.{order_in}
use Rattle.cf_request.proofs.Decided.{decided_by_it, if_some, none_else}
use Rattle.cf_request.proofs.joins.decided_by_one.Goals as goal

pub returns-clause-decided : goal.returns-clause-decided
returns-clause-decided c =
    let t = c.args.teller.now in
    let j = c.args.join.now in
    if_some c.outcome.result (λ o. IsDecided (state_of t.ledger).stages (order_in t) j o)
    (λ o is. decided_by_it (state_of t.ledger) (order_in t) (stages_of t.ledger) j o c.settled-known.ensures.once c.requires.join (none_else j.source j.others.items c.requires.one) (sym c.outcome.ensures ∙ is))
