use Rattle.std.proofs.Common.{◌≡◌, ◌<◌, ◌≤◌, ◌-◌, ◌++◌, Some, ap, arith, length, length-append, refl, zero-add, ◌∙◌}
use Rattle.std.specs.Prelude.{slice_get}
use Rattle.std.proofs.lemmas.Option.{slice_get_read}
use Rattle.cf_forms.specs.Plans.{Planned, PlannedStage}
use Rattle.cf_forms.proofs.ListLemmas.{slice_get-behind}
use Rattle.cf_forms.proofs.PlanLemmas.{lower_at}
use Rattle.cf_reference.proofs.plan.ReferencePlan.sources.Goals as goal

pub returns-else-i-opened-clause-lower : goal.returns-else-i-opened-clause-lower
returns-else-i-opened-clause-lower c =
    let opening = c.self.inside.opening in
    let attached = c.self.inside.attached.items in
    let i = c.args.i in
    let n = length opening.stages in
    let count = ap (λ (p : Planned). length p.stages) c.self.view_is in
    let past : n ≤ i = omega (arith, c.stages-opened.ensures.count, c.if-i-opened.false) in
    let within : i - n < length attached = omega (arith, count, c.requires, past, length-append opening.stages attached) in
    let at : slice_get (opening.stages ++ attached) i ≡ Some c.index.result.now =
    slice_get-behind opening.stages attached i past
    ∙ slice_get_read attached (length attached) (i - n) c.index.result.now refl within (rw (← c.stages-opened.ensures.count) c.index.ensures) in
    let same : c.deref.result.now ≡ c.index.result.now.sources = c.deref.ensures.value ∙ ap (λ (s : PlannedStage). s.sources) c.behind-self.view_is in
    rw (same, ← zero-add i) (lower_at 0 (opening.stages ++ attached) i c.index.result.now c.self.invariant.built.lower at)
