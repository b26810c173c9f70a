use Rattle.std.proofs.Common.{◌≡◌, ◌+◌, sym, subst}
use Rattle.cf_model.specs.States.{start}
use Rattle.cf_ledger.specs.Ledgers.{AreTaken}
use Rattle.cf_notes.specs.Tables.{Table}
use Rattle.cf_row.specs.Puts.{Row}
use Rattle.cf_row.specs.Rows.{Replica, history_of, with_more}
use Rattle.cf_part.specs.Parts.{AreOfStages}
use Rattle.cf_part.proofs.Meeting.{ok_by}
use Rattle.cf_part.proofs.Roomier.{stages_noted_more}
use Rattle.cf_part.proofs.growing.grow_seen.Goals as goal

pub returns-clause-stages : goal.returns-clause-stages
returns-clause-stages c =
    let row = c.args.row.now in
    let more = c.args.more in
    let taken = subst (λ (r : Replica). AreTaken (start r.plan) (history_of r.seen)) c.replica.ensures c.ledger.ensures.taken in
    let grown : c.grow-2.new.self ≡ (record row { replica = with_more row.replica more }) = ok_by c.grow-2.result c.is_err.result _ c.is_err.ensures.value c.if-is_err.false c.grow-2.ensures.grown in
    subst (λ (r : Row). AreOfStages r.replica c.grow.new.self) (sym grown)
    (subst (λ (t : Table). AreOfStages (with_more row.replica more) t) (sym c.in_ok-grow.ensures.grown) (stages_noted_more row.replica c.args.notes.now more taken c.requires.stages))
