use Rattle.std.proofs.Common.{◌≡◌, ◌≤◌, ◌+◌, ◌++◌, List, length, map, vec_len, vec_capacity}
use Rattle.std.specs.List.{AllZip}
use Rattle.std.specs.Vec.Iter.{into_iter_items, into_iter_len}
use Rattle.cf_desk.specs.Rule.{AllShort}
use Rattle.cf_desk.specs.Views.{knowns}
use Rattle.cf_pool.specs.declared.pool.Worked.{Worked}
use Rattle.cf_pool.specs.Runs.{SeesMore, SeesOn}
use Rattle.cf_pool.proofs.pool.meet_all.Given as goal

abbrev pub invariant-next : goal.invariant-next
invariant-next g l = record {
  done : List (Worked g.row.W.Denot);
  parts : l.fn.worked.items ≡ done ++ into_iter_items l.rest;
  left : vec_len l.back.passes + into_iter_len l.rest ≤ vec_capacity l.back.passes;
  left_too : vec_len l.back.workers + into_iter_len l.rest ≤ vec_capacity l.back.workers;
  room : vec_capacity l.fn.back.passes ≤ vec_capacity l.back.passes;
  room_too : vec_capacity l.fn.back.workers ≤ vec_capacity l.back.workers;
  mine : SeesMore l.initial.mine l.mine;
  others : AllZip SeesOn done l.back.passes.items;
  workers : l.back.workers.items ≡ map (λ w. w.worker) done;
  short : AllShort (length l.mine.known.seen) (knowns l.back.passes.items);
}

abbrev pub decreases-next : goal.decreases-next
decreases-next g l = into_iter_len l.rest
