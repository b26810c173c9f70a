use Rattle.std.proofs.Common.{◌≡◌, []}
use Rattle.crossbeam_utils.specs.Seq.{cell_view}
use Rattle.cf_threads.specs.Slips.{IsSlip}
use Rattle.cf_threads.specs.Turns.{Holds}
use Rattle.cf_threads.proofs.Works.{HasRested}
use Rattle.cf_threads.proofs.work.take_next.Given as goal

-- so far it has rested
abbrev pub invariant-turns : goal.invariant-turns
invariant-turns g l = record {
  table : l.mine.table_id ≡ g.B.Room.table;
  free : l.mine.me.1 ≡ [];
  slip : IsSlip (cell_view l.mine);
  holds : Holds l.holds (cell_view l.mine).mine;
  rested : HasRested l.initial.holds (cell_view l.initial.mine).mine (cell_view l.mine).mine l.holds;
}
