use Rattle.std.proofs.Common.{◌<◌, length, subst, sym}
use Rattle.cf_model.specs.States.{State}
use Rattle.cf_model.specs.declared.events.Reply.TheVariants.{Claim as ToldClaim}
use Rattle.cf_ledger.specs.Books.{ledger_in}
use Rattle.cf_ledger.specs.Ledgers.{Does, Ledger, stages_of}
use Rattle.cf_ledger.proofs.Reserving.{one_of_some}
use Rattle.cf_ledger.proofs.ledger.Ledger.claim_found.Goals as goal

pub claim-requires-clause-there : goal.claim-requires-clause-there
claim-requires-clause-there c =
    subst (λ (s : State). c.args.stage < length s.plan.stages) (sym c.self.invariant.kept.left) (subst (λ (l : Ledger). c.args.stage < stages_of l) (sym c.self.view_is) c.requires.there)

pub claim-requires-clause-place : goal.claim-requires-clause-place
claim-requires-clause-place c =
    let b = c.self.inside.book in
    one_of_some b.free (length b.changed) b.words b.news (subst (λ (l : Ledger). 0 < l.free) (sym c.self.view_is) c.requires.memory) c.self.invariant.places

pub returns : goal.returns
returns c = subst (λ (l : Ledger). Does c.args.word l (ToldClaim c.claim.result) (ledger_in c.claim.new.self)) c.self.view_is c.claim.ensures.does
