use Rattle.std.proofs.Common.{◌≡◌, ℕ, ◌<◌, ◌≤◌, length, slice_get, take}
use Rattle.std.specs.Option.{option_map}
use Rattle.cf_c_handles.specs.Rounds.{finished_all, finished_task}
use Rattle.cf_c_handles.specs.declared.values.task.CfTask.{CfTask}
use Rattle.cf_c_handles.proofs.graph.rounds.finish_all.Given as goal

abbrev pub invariant-each : goal.invariant-each
invariant-each l = record {
  state : l.graph.state ≡ finished_all l.who l.initial.graph.state (take l.k l.initial.tasks);
  plan : l.graph.state.plan ≡ l.initial.graph.state.plan;
  reach : length l.tasks ≡ length l.initial.tasks;
  given : (k : ℕ) → k < l.k → slice_get l.tasks k ≡ option_map (λ (t : CfTask). finished_task l.who (finished_all l.who l.initial.graph.state (take k l.initial.tasks)) t) (slice_get l.initial.tasks k);
  kept : (k : ℕ) → l.k ≤ k → slice_get l.tasks k ≡ slice_get l.initial.tasks k;
}
