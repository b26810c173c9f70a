use Rattle.std.proofs.Common.{◌+◌, ◌<◌, All, arith, length}
use Rattle.std.proofs.lemmas.List.{length-map}
use Rattle.cf_plan.specs.Rows.{stage_of, stages_of}
use Rattle.cf_plan.proofs.DependentLemmas.{all_sources_below}
use Rattle.cf_plan.proofs.plan.Plan.of_rows.Goals as goal

pub new-requires-clause-lower : goal.new-requires-clause-lower
new-requires-clause-lower c =
    let rows = c.args.rows.items in
    let sources = c.args.sources.items in
    let below : All (λ j. j < 0 + length (stages_of sources rows)) sources = rw c.requires.rows_fit.joined at (all_sources_below 0 (stages_of sources rows) c.requires.built.lower) in
    rw (c.deref-2.ensures.value, c.deref.ensures.value) (λ m d l. let b = below m d l in omega (arith, length-map rows (stage_of sources)))
