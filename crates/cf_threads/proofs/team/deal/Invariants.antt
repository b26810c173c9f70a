use Rattle.std.proofs.Common.{◌≡◌, ◌≤◌, ◌+◌, ◌-◌, ◌++◌, [], List, length, vec_len, vec_capacity}
use Rattle.std.specs.List.{AllZip}
use Rattle.std.specs.Vec.Iter.{into_iter_items, into_iter_len}
use Rattle.crossbeam_utils.specs.Seq.{cell_view}
use Rattle.cf_threads.specs.Slips.{all_parts, keeper}
use Rattle.cf_threads.specs.Teams.{IsDealt}
use Rattle.cf_threads.proofs.team.deal.Given as goal

abbrev pub invariant-next : goal.invariant-next
invariant-next g l = record {
  done : List g.row.F.Denot;
  parts : l.fn.hands.items ≡ done ++ into_iter_items l.rest;
  few : length done + into_iter_len l.rest ≡ vec_len l.fn.hands;
  left : vec_len l.jobs + into_iter_len l.rest ≤ vec_capacity l.jobs;
  table : l.all.table_id ≡ l.initial.all.table_id;
  view : cell_view l.all ≡ keeper (all_parts - length done) [];
  each : AllZip (IsDealt l.initial.all.table_id) done l.jobs.items;
}

abbrev pub decreases-next : goal.decreases-next
decreases-next g l = into_iter_len l.rest
