use Rattle.cf_row.proofs.Fitting.{behind_by, not_behind_by}
use Rattle.cf_row.proofs.words.are_behind.Goals as goal

pub returns-clause-are : goal.returns-clause-are
returns-clause-are c = behind_by c.are_for.result c.args.replica.now c.ledger-ledger.result.now c.args.who c.stages.result c.room.result c.args.words.now c.ledger-ledger.ensures.ledger c.stages.ensures.count c.room.ensures c.are_for.ensures.are

pub returns-clause-none : goal.returns-clause-none
returns-clause-none c = not_behind_by c.are_for.result c.args.replica.now c.ledger-ledger.result.now c.args.who c.stages.result c.room.result c.args.words.now c.ledger-ledger.ensures.ledger c.stages.ensures.count c.room.ensures c.are_for.ensures.none
