use Rattle.std.proofs.Common.{◌≡◌, ◌≤◌, ◌+◌, ◌++◌, List, vec_len, vec_capacity}
use Rattle.std.specs.Arc.{arc_value}
use Rattle.std.specs.Vec.Iter.{into_iter_items, into_iter_len}
use Rattle.cf_desk.specs.Views.{Pass}
use Rattle.cf_c_handles.specs.Opening.{AreBoxed}
use Rattle.cf_c_handles.proofs.desk.opening.boxed.Given as goal

abbrev pub invariant-next : goal.invariant-next
invariant-next l = record {
  done : List Pass;
  parts : l.fn.passes.items ≡ done ++ into_iter_items l.rest;
  left : vec_len l.held + into_iter_len l.rest ≤ vec_capacity l.held;
  desk : arc_value l.shared ≡ l.fn.desk;
  boxed : AreBoxed l.fn.desk done l.held.items;
}

abbrev pub decreases-next : goal.decreases-next
decreases-next l = into_iter_len l.rest
