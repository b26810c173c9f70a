use Rattle.std.proofs.Common.{◌≡◌, None, ap, rules}
use Rattle.std.specs.Prelude.{Ok}
use Rattle.crossbeam_utils.specs.Seq.{cell_view}
use Rattle.cf_threads.proofs.Kept.{slip_is}
use Rattle.cf_threads.proofs.Works.{rested_holds, rested_more}
use Rattle.cf_threads.proofs.work.take_next.Goals as goal

pub turns-preserved : goal.turns-preserved
turns-preserved g c =
    let told = c.turn-next.ensures in
    let before = (cell_view c.args.mine).mine in
    let after = (cell_view c.turns.mine).mine in
    let more = (cell_view c.turn-next.result.mine).mine in
    let none : c.turn-next.result.next ≡ Ok None = search rules in
    let rested = rested_more c.args.held c.turns.holds before after more c.turn-next.result.next c.turns.invariant.rested none (ap (λ v. v.mine) told.noted) in
    record {
      table = told.mine.0;
      free = told.mine.1;
      slip = slip_is _ _ told.noted;
      holds = rested_holds c.args.held None before more c.requires.holds rested;
      rested = rested;
    }
