use Rattle.std.proofs.Common.{◌≡◌, drop, length, All}
use Rattle.serde_json.specs.View.{items_view}
use Rattle.cf_script_reading.specs.Checks.{fold_items}
use Rattle.cf_script_reading.specs.Scripts.{FunctionFits}
use Rattle.cf_script_reading.specs.Stages.{stage_next, nothing_drafted}
use Rattle.cf_script_reading.specs.Views.{drafted}
use Rattle.cf_script_reading.proofs.stages.read_stages.Given as goal

-- what the rest gives from here is what the whole gives from the start
abbrev pub invariant-stages : goal.invariant-stages
invariant-stages l = record {
  numbered : All (FunctionFits (length l.draft.functions.items)) l.draft.plan.plan.stages;
  so_far : fold_items (stage_next l.version) (drafted l.draft) (items_view (drop l.json-index l.list)) ≡ fold_items (stage_next l.version) nothing_drafted (items_view l.list);
}
