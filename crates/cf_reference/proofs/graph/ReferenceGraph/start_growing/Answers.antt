use Rattle.std.proofs.Common.{◌∙◌, ap, arith, length, None}
use Rattle.std.proofs.lemmas.List.{length-replicate}
use Rattle.cf_model.specs.declared.stage.Stage.TheVariants.{Pending}
use Rattle.cf_model.proofs.Shape.{length-new_states}
use Rattle.cf_reference.proofs.graph.ReferenceGraph.start_growing.Goals as goal

pub invariant_of-result : goal.invariant_of-result
invariant_of-result c = record {
  growing = c.stages-count.ensures.growing;
  all_stages = ap length c.in_ok-stages.ensures ∙ length-new_states _ _ _ ∙ ap length (c.deref.ensures.value ∙ c.in_ok-pending.ensures) ∙ length-replicate c.stages-count.result Pending ∙ c.stages-count.ensures.count;
  all_claims = ap length c.in_ok-claims.ensures ∙ length-replicate c.stages-count.result None ∙ c.stages-count.ensures.count;
  few_used = omega arith;
}
