use Rattle.std.proofs.Common.{◌<◌, ◌+◌, max, drop, length, arith, ap, ◌∙◌}
use Rattle.cf_desk.specs.Functions.{function_above, function_bound}
use Rattle.cf_desk.proofs.FunctionLemmas.{next_bound}
use Rattle.cf_desk.proofs.functions.function_bound.Goals as goal

pub stages-preserved : goal.stages-preserved
stages-preserved c =
    let stages = c.args.plan.now.stages in
    let i = c.stages.i in
    let there : i < length stages = (let t = c.stages-test.true in let n = c.stages-i-end.ensures.count in omega (arith, t, n)) in
    let taken = c.max-bound.ensures ∙ ap (λ n. max n c.stages.bound) (c.above.ensures.above ∙ ap function_above c.function.ensures) in
    let few = c.above.ensures.few in
    let before = c.stages.invariant.few in
    let is = c.max-bound.ensures in record {
      bound = ap (λ n. max n (function_bound (drop (i + 1) stages))) taken ∙ next_bound stages i c.stages.bound (function_bound stages) there c.stages.invariant.bound;
      few = omega (arith, few, before, is);
    }
