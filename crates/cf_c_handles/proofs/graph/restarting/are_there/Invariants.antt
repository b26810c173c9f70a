use Rattle.std.proofs.Common.{ℕ, ◌<◌, slice_index_or}
use Rattle.cf_c_handles.specs.declared.values.CfGiven.{CfGiven}
use Rattle.cf_c_handles.proofs.graph.restarting.are_there.Given as goal

abbrev pub invariant-each : goal.invariant-each
invariant-each l = (k : ℕ) → (d : CfGiven) → k < l.one-index → (slice_index_or l.given k d).stage < l.stages
