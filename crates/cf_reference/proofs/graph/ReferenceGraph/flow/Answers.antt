use Rattle.std.proofs.Common.{◌∙◌, ap, length}
use Rattle.cf_model.proofs.Shape.{length-new_states}
use Rattle.cf_reference.proofs.graph.ReferenceGraph.flow.Goals as goal

pub invariant_of-self : goal.invariant_of-self
invariant_of-self c = record {
  growing = c.self.invariant.growing;
  all_stages = ap length c.in_ok-new.ensures ∙ length-new_states _ _ _ ∙ ap length c.deref.ensures.value ∙ c.self.invariant.all_stages;
  all_claims = c.self.invariant.all_claims;
  few_used = c.self.invariant.few_used;
}
