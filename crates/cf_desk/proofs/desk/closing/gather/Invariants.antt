use Rattle.std.proofs.Common.{◌≡◌, ◌≤◌, ◌+◌, ◌++◌, [], List, All, vec_len, vec_capacity}
use Rattle.std.specs.Vec.Iter.{into_iter_items, into_iter_len}
use Rattle.cf_desk.specs.Views.{Pass, IsLatest, knowns}
use Rattle.cf_desk.specs.Keepings.{AreKept, IsCallers, IsFit}
use Rattle.cf_desk.proofs.desk.closing.gather.Given as goal

abbrev pub invariant-next : goal.invariant-next
invariant-next l = record {
  done : List Pass;
  parts : l.fn.passes.items ≡ done ++ into_iter_items l.rest;
  left : vec_len l.kept + into_iter_len l.rest ≤ vec_capacity l.kept;
  table : l.seat.table_id ≡ l.row.shared.table_id;
  seat : l.seat.me ≡ (knowns done, []);
  kept : AreKept l.kept.items done;
  replica : IsLatest l.most l.latest.state (knowns done);
  callers : All IsCallers done;
  fit : All IsFit done;
}

abbrev pub decreases-next : goal.decreases-next
decreases-next l = into_iter_len l.rest
