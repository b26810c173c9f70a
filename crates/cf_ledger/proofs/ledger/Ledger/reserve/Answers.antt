use Rattle.std.proofs.Common.{◌≡◌, ◌∙◌, ap, arith, max}
use Rattle.cf_ledger.specs.Books.{ledger_in}
use Rattle.cf_ledger.specs.Ledgers.{Ledger}
use Rattle.cf_ledger.proofs.Reserving.{found_now}
use Rattle.cf_ledger.proofs.ledger.Ledger.reserve.Goals as goal

pub returns-clause-found : goal.returns-clause-found
returns-clause-found c =
    let more = c.args.more in
    ap (λ (l : Ledger). let now : Ledger = record l { free = more } in now) c.in_ok-make_places.ensures.same ∙ found_now (ledger_in c.self.inside.book) more (omega arith)
    ∙ ap (λ (l : Ledger). let now : Ledger = record l { free = max l.free more } in now) c.self.view_is
