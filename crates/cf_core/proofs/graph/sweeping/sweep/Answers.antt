use Rattle.std.proofs.Common.{◌≡◌, ◌≤◌, ◌+◌, ◌∙◌, ap, arith, cond, false, length, subst, sym, true, Bool, ℕ}
use Rattle.cf_core.specs.Keeping.SoundStages.{settled_view_of}
use Rattle.cf_core.specs.Keeping.Sweeps.{Serves}
use Rattle.cf_core.proofs.Keeping.Sweeping.{visited, visits-claims}
use Rattle.cf_core.proofs.graph.sweeping.sweep.Goals as goal
use Rattle.cf_core.proofs.graph.sweeping.sweep.Goals.{else-visit, then-visit}

pub loop-m-preserved : goal.loop-m-preserved
loop-m-preserved g c =
    let plan = c.args.plan.now.stages in
    let calls = g.F.Functions.calls in
    let h = c.loop-m.invariant in
    let v = c.visit.ensures in
    let all : length c.visit.new.claims.items ≡ length c.loop-m.claims.items =
    visits-claims calls plan c.visit.result (settled_view_of plan c.loop-m.stages) (settled_view_of plan c.visit.new.stages) c.loop-m.claims.items c.visit.new.claims.items c.loop-m.functions c.visit.new.functions c.loop-m.m v.served in
    let turns = v.counted in
    let before = h.counted in
    let counted : c.if-visit.calls ≡ cond c.visit.result (c.loop-m.calls + 1) c.loop-m.calls = elim c.if-visit.branch [
      | then-visit w ↦ w.calls-is ∙ sym (ap (λ b. cond b (c.loop-m.calls + 1) c.loop-m.calls) w.if-visit.true)
      | else-visit w ↦ w.calls-is ∙ sym (ap (λ b. cond b (c.loop-m.calls + 1) c.loop-m.calls) w.if-visit.false)
    ] in
    let few = few_more c.visit.result c.loop-m.calls in
    record {
      swept = v.swept;
      served = subst (λ n. Serves calls plan (settled_view_of plan c.args.stages.now) c.args.claims.now.items c.args.functions.now n (settled_view_of plan c.visit.new.stages) c.visit.new.claims.items c.visit.new.functions) (sym counted)
          (visited calls plan (settled_view_of plan c.args.stages.now) c.args.claims.now.items c.args.functions.now c.loop-m.functions c.visit.new.functions c.loop-m.calls (settled_view_of plan c.loop-m.stages) (settled_view_of plan c.visit.new.stages)
          c.loop-m.claims.items c.visit.new.claims.items c.loop-m.m c.visit.result h.served v.served);
      few = (let start = h.few in omega (arith, counted, few, start));
      all_claims = all ∙ h.all_claims;
      claimed = v.claimed;
      claims_room = v.claims_room ∙ h.claims_room;
      counted = omega (arith, turns, before);
      room = (v.room.0 ∙ h.room.0, v.room.1 ∙ h.room.1);
    }
  where
    few_more : (b : Bool) (n : ℕ) → cond b (n + 1) n ≤ n + 1
    few_more true n = omega arith
    few_more false n = omega arith
