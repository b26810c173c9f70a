use Rattle.std.proofs.Common.{◌≡◌, ◌∙◌, ◌+◌, arith, Some}
use Rattle.std.specs.Prelude.{slice_get}
use Rattle.cf_model.specs.Events.{limit_outcome}
use Rattle.cf_core.proofs.Keeping.Resting.{rests-more}
use Rattle.cf_model.proofs.Firing.{firing-more, settling-plan, settling-used}
use Rattle.cf_core.proofs.graph.Graph.fire_next.Goals.{then-fire, else-fire}
use Rattle.cf_core.proofs.graph.Graph.fire_next.Goals as goal

pub loop-k-preserved : goal.loop-k-preserved
loop-k-preserved c =
    let s0 = c.args.self.now.state in
    let s = c.loop-k.self.state in
    let r = c.fire.new.self.state in
    let limit = c.unused-limit.result in
    let fired = c.fire.ensures.told in
    let at : slice_get s0.plan.limits (s0.used + c.loop-k.k) ≡ Some limit =
    rw (← c.loop-k.invariant.plan, ← c.loop-k.invariant.used) c.unused-limit.ensures.limit in
    let all = firing-more s0.plan.limits s0.used c.args.count c.loop-k.k c.loop-k.fired s limit c.fire.result r c.loop-k-test.true at fired
    ∙ c.loop-k.invariant.rest in
    record {
      rest = elim c.if-fire.branch [
        | then-fire w ↦ rw w.fired-is (rw w.if-fire.true at all)
        | else-fire w ↦ rw w.fired-is (rw w.if-fire.false at all)
      ];
      plan = settling-plan s limit.stage (limit_outcome limit.kind) c.fire.result r fired ∙ c.loop-k.invariant.plan;
      used = settling-used s limit.stage (limit_outcome limit.kind) c.fire.result r fired ∙ c.loop-k.invariant.used;
      counted = (let before = c.loop-k.invariant.counted in let more = c.fire.ensures.counted in omega arith);
      unfired = λ e. absurd (omega (arith, e));
      rests = rests-more s0.plan.limits s0.used c.loop-k.k limit c.args.self.now c.loop-k.self c.fire.new.self at c.loop-k.invariant.unfired c.fire.ensures.rests;
      few = elim c.if-fire.branch [
        | then-fire w ↦ (let few = c.loop-k.invariant.few in let is = w.fired-is in omega arith)
        | else-fire w ↦ (let few = c.loop-k.invariant.few in let is = w.fired-is in omega arith)
      ];
    }
