use Rattle.std.proofs.Common.{◌≡◌, ℕ, ◌<◌, None, slice_index_or}
use Rattle.cf_c_handles.specs.declared.handle.CfHandle.{CfHandle}
use Rattle.cf_c_handles.proofs.desk.opening.are_empty.Given as goal

abbrev pub invariant-each : goal.invariant-each
invariant-each l = (k : ℕ) → (d : CfHandle) → k < l.h-index → (slice_index_or l.callers k d).inner.held ≡ None
