use Rattle.std.proofs.Common.{arith, length, ◌<◌, ◌≡◌, Some, ap, ◌∙◌, refl, zero-add}
use Rattle.std.specs.Prelude.{slice_get}
use Rattle.std.specs.Option.{option_map}
use Rattle.std.proofs.lemmas.Option.{slice_get_read, slice_get-map}
use Rattle.std.proofs.lemmas.List.{length-map}
use Rattle.cf_forms.specs.Plans.{Planned}
use Rattle.cf_plan.specs.Rows.{stage_of, stages_of}
use Rattle.cf_forms.proofs.PlanLemmas.{lower_at}
use Rattle.cf_plan.proofs.plan.Plan.sources.Goals as goal

pub returns-clause-lower : goal.returns-clause-lower
returns-clause-lower c =
    let rows = c.blocks-2.inside.rows.items in
    let sources = c.blocks-2.inside.sources.items in
    let row = c.index-row.result.now in
    let count = ap (λ (p : Planned). length p.stages) (c.blocks-2.view_is ∙ c.deref-blocks.ensures ∙ c.self.view_is) in
    let in_range : c.args.i < length rows = omega (arith, count, length-map rows (stage_of sources), c.requires) in
    let at : slice_get (stages_of sources rows) c.args.i ≡ Some (stage_of sources row) =
    slice_get-map (stage_of sources) rows c.args.i
    ∙ ap (option_map (stage_of sources)) (slice_get_read rows (length rows) c.args.i row refl in_range c.index-row.ensures) in
    rw (c.deref.ensures.value, ← zero-add c.args.i) (lower_at 0 (stages_of sources rows) c.args.i (stage_of sources row) c.blocks-2.invariant.0.built.lower at)
