use Rattle.std.proofs.Common.{◌≡◌, ◌+◌, All, vec_len}
use Rattle.std.specs.Vec.Iter.{into_iter_items, into_iter_len}
use Rattle.cf_pool.specs.Beginnings.{IsApart, IsIdle}
use Rattle.cf_pool.proofs.races.beginning.meet_others.Given as goal

abbrev pub invariant-next : goal.invariant-next
invariant-next l = record {
  same : l.first ≡ l.initial.first;
  idle : All (IsIdle l.desk l.first.calls) (into_iter_items l.rest);
  apart : All (IsApart l.desk l.first.calls l.first.known.seen) l.met.items;
  count : vec_len l.met + into_iter_len l.rest ≡ vec_len l.fn.others;
}

abbrev pub decreases-next : goal.decreases-next
decreases-next l = into_iter_len l.rest
