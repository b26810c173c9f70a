use Rattle.std.proofs.Common.{arith, refl}
use Rattle.cf_reference.proofs.Attaching.{same_built, same_more}
use Rattle.cf_reference.proofs.plan.same_plans.Goals as goal

pub loop-i-preserved : goal.loop-i-preserved
loop-i-preserved c =
    let a = c.args.a.now.stages in
    let b = c.args.b.now.stages in
    let so_far = c.loop-i.invariant in
    let here = c.if-not-same_planned.ensures in
    record {
      same = same_more a b c.loop-i.i (omega (arith, c.loop-i-test.true, so_far.so_many)) (omega (arith, c.loop-i-test.true, so_far.as_many)) so_far.same (here.form refl) (here.sources refl) (here.function refl);
      so_many = so_far.so_many;
      as_many = so_far.as_many;
      first = so_far.first;
      other = so_far.other;
      limits = so_far.limits;
    }

pub returns-clause-same : goal.returns-clause-same
returns-clause-same c = λ yes.
    let so_far = c.loop-i.invariant in
    same_built c.args.a.now c.args.b.now c.loop-i.i so_far.first so_far.other (omega (arith, so_far.so_many)) (omega (arith, so_far.as_many)) so_far.same so_far.limits
