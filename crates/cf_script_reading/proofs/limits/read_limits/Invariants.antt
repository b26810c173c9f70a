use Rattle.std.proofs.Common.{◌≡◌, drop}
use Rattle.serde_json.specs.View.{items_view}
use Rattle.cf_script_reading.specs.Checks.{fold_items}
use Rattle.cf_script_reading.specs.Limits.{limit_next}
use Rattle.cf_script_reading.proofs.limits.read_limits.Given as goal

-- what the rest gives from here is what the whole gives from the start
abbrev pub invariant-limits : goal.invariant-limits
invariant-limits l = record {
  stages : l.plan.plan.stages ≡ l.initial.plan.plan.stages;
  so_far : fold_items limit_next l.plan.plan (items_view (drop l.json-index l.list)) ≡ fold_items limit_next l.initial.plan.plan (items_view l.list);
}
