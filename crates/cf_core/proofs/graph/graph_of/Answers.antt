use Rattle.std.proofs.Common.{◌∙◌, None, ap, arith, length, subst, sym}
use Rattle.std.proofs.lemmas.List.{length-replicate}
use Rattle.cf_forms.specs.Plans.{Planned}
use Rattle.cf_core.specs.Keeping.Graphs.{AreClaimed}
use Rattle.cf_core.proofs.Keeping.GraphLemmas.{no_claims}
use Rattle.cf_core.proofs.graph.graph_of.Goals as goal

pub invariant_of-result : goal.invariant_of-result
invariant_of-result c =
    let kept = c.in_ok-stages.stages.kept.items in
    record {
      growing = c.stages.ensures.growing;
      sound = c.in_ok-stages.ensures.sound;
      all_claims = ap length c.in_ok-claims.ensures.claims ∙ length-replicate c.stages.result None ∙ c.stages.ensures.count;
      claimed = subst (λ claims. AreClaimed claims kept) (sym c.in_ok-claims.ensures.claims) (no_claims c.stages.result kept);
      stages_room = c.in_ok-stages.ensures.room;
      claims_room = (let e = c.stages.ensures.count in let room = ap (λ (p : Planned). p.room) c.in_ok-plan.ensures in let enough = c.in_ok-claims.ensures.room in omega (arith, e, room, enough));
      few_used = omega arith;
    }
