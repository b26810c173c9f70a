use Rattle.std.proofs.Common.{◌≡◌, ◌≤◌, length, map, take}
use Rattle.cf_model.specs.Events.{state_after}
use Rattle.cf_c_handles.specs.Restarts.{completing}
use Rattle.cf_c_handles.proofs.graph.restarting.complete_all.Given as goal

-- the stages so far are completed, and those of before are there
abbrev pub invariant-each : goal.invariant-each
invariant-each l = record {
  done : l.graph.state ≡ state_after l.initial.graph.state (map completing (take l.k l.given));
  stages : length l.initial.graph.state.plan.stages ≤ length l.graph.state.plan.stages;
}
