-- The notes of a row with room for more stages.
use Rattle.std.proofs.Common.{ℕ, ◌+◌, ◌∙◌, sym, arith}
use Rattle.cf_model.specs.States.{start}
use Rattle.cf_ledger.specs.Ledgers.{AreTaken}
use Rattle.cf_notes.specs.Tables.{Table}
use Rattle.cf_row.specs.Rows.{Replica, history_of, with_more}
use Rattle.cf_row.proofs.Roomier.{stages_more}
use Rattle.cf_part.specs.Parts.{AreOfStages}

pub stages_noted_more : (r : Replica) (notes : Table) (more : ℕ) → AreTaken (start r.plan) (history_of r.seen) → AreOfStages r notes → AreOfStages (with_more r more) (record notes { room = notes.room + more })
stages_noted_more r notes more taken h =
    let places = h.places in
    record { each_stage = h.each_stage ∙ sym (stages_more r more taken); places = omega (arith, places) }
