use Rattle.std.proofs.Common.{◌≡◌, ◌∙◌, ◌+◌, arith, Some}
use Rattle.std.specs.Prelude.{slice_get}
use Rattle.cf_model.specs.Events.{limit_outcome, settling}
use Rattle.cf_model.proofs.Firing.{firing-more, settling-plan, settling-used}
use Rattle.cf_reference.proofs.graph.ReferenceGraph.fire_next.Goals.{then-done, else-done}
use Rattle.cf_reference.proofs.graph.ReferenceGraph.fire_next.Goals as goal

pub loop-k-preserved : goal.loop-k-preserved
loop-k-preserved c =
    let s0 = c.args.self.now in
    let s = c.loop-k.self in
    let r = c.settle.new.self in
    let limit = c.unused-limit.result in
    let fired : (c.in_ok-done.done, r) ≡ settling s limit.stage (limit_outcome limit.kind) = rw (← c.outcome_of_limit.ensures) c.in_ok-done.ensures in
    let at : slice_get s0.plan.limits (s0.used + c.loop-k.k) ≡ Some limit =
    rw (← c.loop-k.invariant.plan, ← c.loop-k.invariant.used) c.unused-limit.ensures.limit in
    let all = firing-more s0.plan.limits s0.used c.args.count c.loop-k.k c.loop-k.fired s limit c.in_ok-done.done r c.loop-k-test.true at fired
    ∙ c.loop-k.invariant.rest in
    record {
      rest = elim c.if-done.branch [
        | then-done w ↦ rw w.fired-is (rw w.if-done.true at all)
        | else-done w ↦ rw w.fired-is (rw w.if-done.false at all)
      ];
      plan = settling-plan s limit.stage (limit_outcome limit.kind) c.in_ok-done.done r fired ∙ c.loop-k.invariant.plan;
      used = settling-used s limit.stage (limit_outcome limit.kind) c.in_ok-done.done r fired ∙ c.loop-k.invariant.used;
      few = elim c.if-done.branch [
        | then-done w ↦ (let few = c.loop-k.invariant.few in let is = w.fired-is in omega arith)
        | else-done w ↦ (let few = c.loop-k.invariant.few in let is = w.fired-is in omega arith)
      ];
    }
