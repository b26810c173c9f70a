use Rattle.std.proofs.Common.{◌≡◌, ℕ, ◌<◌, ◌≤◌, length, slice_get}
use Rattle.std.specs.Option.{option_map}
use Rattle.cf_model.specs.States.{lowest_ready_of}
use Rattle.cf_c_handles.specs.Rounds.{claimed_task, claimed_times}
use Rattle.cf_c_handles.specs.declared.values.task.CfTask.{CfTask}
use Rattle.cf_c_handles.proofs.graph.rounds.claim_all.Given as goal

abbrev pub invariant-each : goal.invariant-each
invariant-each l = record {
  state : l.graph.state ≡ claimed_times l.who l.initial.graph.state l.k;
  reach : length l.tasks ≡ length l.initial.tasks;
  given : (k : ℕ) → k < l.k → slice_get l.tasks k ≡ option_map (λ (t : CfTask). claimed_task l.who (claimed_times l.who l.initial.graph.state k) t (lowest_ready_of (claimed_times l.who l.initial.graph.state k))) (slice_get l.initial.tasks k);
  kept : (k : ℕ) → l.k ≤ k → slice_get l.tasks k ≡ slice_get l.initial.tasks k;
}
