use Rattle.std.proofs.Common.{ℕ, ◌∙◌, subst}
use Rattle.cf_host.specs.declared.order.Order.{Order}
use Rattle.cf_host.specs.Keeping.{IsAskedFor}
use Rattle.cf_example.specs.Processes.{IsAsked}
use Rattle.cf_example.proofs.processes.serve.Goals as goal

pub serve_row-requires-clause-asked : goal.serve_row-requires-clause-asked
serve_row-requires-clause-asked c =
    let h = c.args.worker.now.host in
    subst (λ (n : ℕ). IsAskedFor h n c.in-Row.ticket c.in-Row.question) (c.if-request-number.false ∙ c.number.ensures)
    (subst (λ (o : Order). IsAsked o h) c.in-Row.is c.requires.asked)
