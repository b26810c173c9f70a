use Rattle.std.proofs.Common.{subst}
use Rattle.cf_ledger.specs.Ledgers.{AreTaken}
use Rattle.cf_model.specs.States.{start}
use Rattle.cf_row.specs.Rows.{Replica, history_of}
use Rattle.cf_example.proofs.Told.{none_taken, one_taken}
use Rattle.cf_example.proofs.processes.Worker.took_what_it_saw.Goals as goal

pub returns-in-Some : goal.returns-in-Some
returns-in-Some c =
    one_taken c.args.self.now.host c.args.number c.in-Some.part.now c.in-Some.ensures.some
    (subst (λ (r : Replica). AreTaken (start r.plan) (history_of r.seen)) c.view-replica.ensures c.ledger.ensures.taken)

pub returns-in_default : goal.returns-in_default
returns-in_default c = none_taken c.args.self.now.host c.args.number c.in_default.ensures.none
