use Rattle.std.proofs.Common.{◌≡◌, ◌∙◌, ◌+◌, ap, arith, Some}
use Rattle.std.specs.Prelude.{slice_get}
use Rattle.cf_model.specs.Events.{limit_outcome}
use Rattle.cf_model.specs.States.{State}
use Rattle.cf_model.proofs.Firing.{firing-more, settling-plan, settling-used}
use Rattle.cf_core.proofs.graph.Graph.fire_telling.Goals.{then-fire, else-fire}
use Rattle.cf_core.proofs.graph.Graph.fire_telling.Goals as goal

pub loop-k-preserved : goal.loop-k-preserved
loop-k-preserved c =
    let s0 = c.args.self.now.state in
    let s = c.loop-k.self.state in
    let r = c.note_moved.new.self.state in
    let limit = c.unused-limit.result in
    let h = c.loop-k.invariant in
    let same = c.note_moved.ensures.unchanged in
    let fired = ap (λ (x : State). (c.fire.result, x)) same ∙ c.fire.ensures.told in
    let at : slice_get s0.plan.limits (s0.used + c.loop-k.k) ≡ Some limit =
    rw (← h.plan, ← h.used) c.unused-limit.ensures.limit in
    let all = firing-more s0.plan.limits s0.used c.args.count c.loop-k.k c.loop-k.fired s limit c.fire.result r c.loop-k-test.true at fired
    ∙ h.rest in
    record {
      rest = elim c.if-fire.branch [
        | then-fire w ↦ rw w.fired-is (rw w.if-fire.true at all)
        | else-fire w ↦ rw w.fired-is (rw w.if-fire.false at all)
      ];
      plan = settling-plan s limit.stage (limit_outcome limit.kind) c.fire.result r fired ∙ h.plan;
      used = settling-used s limit.stage (limit_outcome limit.kind) c.fire.result r fired ∙ h.used;
      counted = (let before = h.counted in let more = c.fire.ensures.counted in let rest = c.note_moved.ensures.counted.counted in omega (arith, before, more, rest));
      worked_out = c.note_moved.ensures.worked_out;
      kept = c.note_moved.ensures.kept;
      moved = λ old moved. c.note_moved.ensures.told old c.loop-k.self.kept (h.moved old moved) (c.fire.ensures.alone h.worked_out).0 c.rank-before.ensures.rank;
      flags = c.note_moved.ensures.flags ∙ h.flags;
      few = elim c.if-fire.branch [
        | then-fire w ↦ (let few = h.few in let is = w.fired-is in omega arith)
        | else-fire w ↦ (let few = h.few in let is = w.fired-is in omega arith)
      ];
    }
