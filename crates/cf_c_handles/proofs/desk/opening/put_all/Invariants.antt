use Rattle.std.proofs.Common.{◌≡◌, ◌++◌, List, length}
use Rattle.std.specs.Global.{Box}
use Rattle.std.specs.Vec.Iter.{into_iter_items, into_iter_len}
use Rattle.cf_c_handles.specs.Opening.{ArePut}
use Rattle.cf_c_handles.specs.declared.handle.CfHandle.{CfHandle}
use Rattle.cf_c_handles.specs.declared.handle.object.Object.{Object}
use Rattle.cf_c_handles.proofs.desk.opening.put_all.Given as goal

abbrev pub invariant-next : goal.invariant-next
invariant-next l = record {
  done : List (Box Object);
  front : List CfHandle;
  back : List CfHandle;
  parts : l.fn.held.items ≡ done ++ into_iter_items l.rest;
  handles : l.handles ≡ front ++ back;
  place : length front ≡ l.i;
  left : length back ≡ into_iter_len l.rest;
  put : ArePut done front;
}
