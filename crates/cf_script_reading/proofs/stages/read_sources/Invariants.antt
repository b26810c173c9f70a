use Rattle.std.proofs.Common.{◌≡◌, [], drop}
use Rattle.serde_json.specs.View.{items_view}
use Rattle.cf_script_reading.specs.declared.fault.ReadingFault.TheVariants.{Shape}
use Rattle.cf_script_reading.specs.declared.fault.Part.TheVariants.{Stage}
use Rattle.cf_script_reading.specs.Checks.{fold_items}
use Rattle.cf_script_reading.specs.Stages.{source_next}
use Rattle.cf_script_reading.proofs.stages.read_sources.Given as goal

-- what the rest gives from here is what the whole gives from the start
abbrev pub invariant-sources : goal.invariant-sources
invariant-sources l = let next = source_next (Shape (Stage l.k)) in
    fold_items next l.found.items (items_view (drop l.json-index l.list)) ≡ fold_items next [] (items_view l.list)
