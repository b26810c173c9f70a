use Rattle.std.proofs.Common.{◌≡◌, ◌<◌, ◌∙◌, ◌∷◌, length, length-append, get_or, ap, arith, None, []}
use Rattle.cf_forms.specs.declared.forms.Form.TheVariants.{Source}
use Rattle.cf_forms.specs.Plans.{PlannedStage}
use Rattle.cf_model.specs.declared.stage.Stage.TheVariants.{Pending}
use Rattle.cf_model.specs.States.{next_of}
use Rattle.cf_model.proofs.StateLemmas.{form_at-within, sources_at-within}
use Rattle.cf_reference.proofs.Growing.{new_states-grow}
use Rattle.cf_reference.proofs.stages.new_stages.Goals as goal

pub loop-i-preserved : goal.loop-i-preserved
loop-i-preserved c =
    let plan = c.args.plan.now.stages in
    let stages = c.args.stages.now in
    let below = c.loop-i.new.items in
    let new = c.in_ok-stage.stage in
    let i = c.loop-i.i in
    let none : PlannedStage = record { form = Source; sources = []; function = None } in
    let in_plan : i < length plan = omega arith in
    let in_stages : i < length stages = omega arith in
    let form = c.form.ensures ∙ form_at-within plan i none in_plan in
    let sources = c.sources.ensures.sources ∙ sources_at-within plan i none in_plan in
    let is : new ≡ next_of below (get_or plan i none).form (get_or plan i none).sources (get_or stages i Pending) =
    rw (← form, ← sources, ← c.deref.ensures.value) c.in_ok-stage.ensures in
    record {
      states = rw c.in_ok-push.ensures.items (new_states-grow plan stages below i new none Pending in_plan in_stages is ∙ c.loop-i.invariant.states);
      so_many = ap length c.in_ok-push.ensures.items ∙ omega (arith, length-append below (new ∷ []), c.loop-i.invariant.so_many);
    }
