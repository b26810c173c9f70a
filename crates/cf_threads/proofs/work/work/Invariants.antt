use Rattle.std.proofs.Common.{◌≡◌, [], None}
use Rattle.crossbeam_utils.specs.Seq.{cell_view}
use Rattle.cf_threads.specs.Slips.{IsSlip}
use Rattle.cf_threads.specs.Works.{Works}
use Rattle.cf_threads.proofs.work.work.Given as goal

-- so far it has worked
abbrev pub invariant-jobs : goal.invariant-jobs
invariant-jobs g l = record {
  table : l.mine.table_id ≡ g.B.Room.table;
  free : l.mine.me.1 ≡ [];
  slip : IsSlip (cell_view l.mine);
  works : Works g.F.Functions.calls l.initial.functions None (cell_view l.mine).mine l.functions l.holds;
}
