use Rattle.std.proofs.Common.{◌≡◌, length, drop}
use Rattle.serde_json.specs.View.{items_view}
use Rattle.cf_script_reading.specs.Checks.{fold_items}
use Rattle.cf_script_reading.specs.ReadingProgress.{IsProgress}
use Rattle.cf_script_reading.specs.Steps.{step_next}
use Rattle.cf_script_reading.specs.Views.{progressed}
use Rattle.cf_script_reading.proofs.steps.read_steps.Given as goal

-- what the rest gives from here is what the whole gives from the start
abbrev pub invariant-steps : goal.invariant-steps
invariant-steps l = let next = step_next l.purpose l.version in
    let start = progressed l.initial.progress in record {
      leads : IsProgress l.purpose start.extent (length start.functions) (progressed l.progress);
      so_far : fold_items next (progressed l.progress) (items_view (drop l.json-index l.list)) ≡ fold_items next start (items_view l.list);
    }
