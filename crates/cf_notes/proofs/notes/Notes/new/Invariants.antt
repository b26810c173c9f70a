-- The stages up to this one are noted.
use Rattle.std.proofs.Common.{◌≡◌, ◌+◌, ◌≤◌, [], All, drop, length, vec_capacity}
use Rattle.cf_notes.specs.Noting.{NamesStages, noted_plan}
use Rattle.cf_notes.proofs.notes.Notes.new.Given as goal

abbrev pub invariant-loop-stage : goal.invariant-loop-stage
invariant-loop-stage l = record {
  so_far : noted_plan l.stages.items (drop l.stage l.plan.stages) (drop l.stage l.notes) ≡ noted_plan [] l.plan.stages l.notes;
  count : length l.stages.items ≡ l.stage;
  names : All (NamesStages (length l.stages.items)) l.stages.items;
  places : length l.plan.stages + l.room ≤ vec_capacity l.stages;
}
