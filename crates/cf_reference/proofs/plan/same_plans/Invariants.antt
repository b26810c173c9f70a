use Rattle.std.proofs.Common.{◌≡◌, take, length}
use Rattle.cf_forms.specs.Plans.{plan_of}
use Rattle.cf_reference.proofs.plan.same_plans.Given as goal

-- they have the same stages so far
abbrev pub invariant-loop-i : goal.invariant-loop-i
invariant-loop-i l = record {
  same : take l.i l.a.stages ≡ take l.i l.b.stages;
  so_many : l.i-end ≡ length l.a.stages;
  as_many : l.i-end ≡ length l.b.stages;
  first : l.a ≡ plan_of l.a.stages l.a.limits;
  other : l.b ≡ plan_of l.b.stages l.b.limits;
  limits : l.a.limits ≡ l.b.limits;
}
