use Rattle.std.proofs.Common.{◌<◌, ◌∙◌, arith, length, subst, sym}
use Rattle.cf_model.specs.Graphs.{Graph}
use Rattle.cf_model.specs.declared.events.Reply.TheVariants.{Claim as ToldClaim}
use Rattle.cf_ledger.specs.Books.{ledger_in}
use Rattle.cf_ledger.specs.Ledgers.{Does, Ledger}
use Rattle.cf_ledger.proofs.ledger.Ledger.claim.Goals as goal

pub claim-requires-clause-there : goal.claim-requires-clause-there
claim-requires-clause-there c = subst (λ (g : Graph). c.args.stage < length g.state.plan.stages) (sym c.in_ok-make_places.ensures.graph) (omega arith)

pub returns-clause-done : goal.returns-clause-done
returns-clause-done c =
    subst (λ (l : Ledger). Does c.args.word l (ToldClaim c.claim.result) (ledger_in c.claim.new.self)) (c.in_ok-make_places.ensures.same ∙ c.self.view_is) c.claim.ensures.does
