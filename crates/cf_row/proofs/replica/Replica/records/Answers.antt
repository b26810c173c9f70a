use Rattle.std.proofs.Common.{subst}
use Rattle.cf_row.specs.Rows.{FitsEachRow}
use Rattle.cf_row.proofs.Own.{fits_row}
use Rattle.cf_row.proofs.replica.Replica.records.Goals as goal

pub returns-clause-fit : goal.returns-clause-fit
returns-clause-fit c =
    let r = c.self.inside in
    subst FitsEachRow c.self.view_is (λ row begins. fits_row r.ledger r.session r.seen.items row r.records.items c.self.invariant.kept begins)
