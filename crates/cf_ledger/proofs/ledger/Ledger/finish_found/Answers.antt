use Rattle.std.proofs.Common.{◌<◌, length, subst, sym}
use Rattle.cf_model.specs.States.{State}
use Rattle.cf_model.specs.declared.events.Reply.TheVariants.{Finish as ToldFinish}
use Rattle.cf_ledger.specs.Books.{ledger_in}
use Rattle.cf_ledger.specs.Ledgers.{Does, Ledger, stages_of}
use Rattle.cf_ledger.proofs.Reserving.{one_of_some}
use Rattle.cf_ledger.proofs.ledger.Ledger.finish_found.Goals as goal

pub finish-requires-clause-there : goal.finish-requires-clause-there
finish-requires-clause-there c =
    subst (λ (s : State). c.args.stage < length s.plan.stages) (sym c.self.invariant.kept.left) (subst (λ (l : Ledger). c.args.stage < stages_of l) (sym c.self.view_is) c.requires.there)

pub finish-requires-clause-place : goal.finish-requires-clause-place
finish-requires-clause-place c =
    let b = c.self.inside.book in
    one_of_some b.free (length b.changed) b.words b.news (subst (λ (l : Ledger). 0 < l.free) (sym c.self.view_is) c.requires.memory) c.self.invariant.places

pub returns : goal.returns
returns c = subst (λ (l : Ledger). Does c.args.word l (ToldFinish c.finish.result) (ledger_in c.finish.new.self)) c.self.view_is c.finish.ensures.does
