use Rattle.std.proofs.Common.{◌≡◌, ◌-◌, ◌<◌, ◌≤◌, ◌++◌, ◌∙◌, Some, arith, ap, length, length-append, map, refl, zero-add}
use Rattle.std.specs.Prelude.{slice_get}
use Rattle.std.specs.Option.{option_map}
use Rattle.std.proofs.lemmas.List.{length-map}
use Rattle.std.proofs.lemmas.Option.{slice_get_read, slice_get-map}
use Rattle.cf_plan.specs.Growing.{attached_of}
use Rattle.cf_forms.specs.Plans.{Planned}
use Rattle.cf_forms.proofs.ListLemmas.{slice_get-behind}
use Rattle.cf_forms.proofs.PlanLemmas.{lower_at}
use Rattle.cf_plan.proofs.growing.GrowingPlan.sources.Goals as goal

pub returns-else-i-opened-clause-lower : goal.returns-else-i-opened-clause-lower
returns-else-i-opened-clause-lower c =
    let opening = c.self.inside.opening in
    let rows = c.self.inside.rows.items in
    let row = c.index-row.result.now in
    let old = map attached_of rows in
    let i = c.args.i in
    let n = length opening.stages in
    let count = ap (λ (p : Planned). length p.stages) c.self.view_is in
    let past : n ≤ i = omega (arith, c.stages-opened.ensures.count, c.if-i-opened.false) in
    let within : i - n < length rows = omega (arith, count, c.requires, past, length-append opening.stages old, length-map rows attached_of) in
    let at : slice_get (opening.stages ++ old) i ≡ Some (attached_of row) =
    slice_get-behind opening.stages old i past
    ∙ slice_get-map attached_of rows (i - n)
    ∙ ap (option_map attached_of) (slice_get_read rows (length rows) (i - n) row refl within (rw (← c.stages-opened.ensures.count) c.index-row.ensures)) in
    rw (← zero-add i) (lower_at 0 (opening.stages ++ old) i (attached_of row) c.self.invariant.growing.built.lower at)
