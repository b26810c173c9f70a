use Rattle.std.proofs.Common.{◌≡◌, ◌<◌, ◌+◌, ◌++◌, ◌∷◌, [], ℕ, List, ap, arith, is_some, length, map, rules, suc, take, ◌∙◌}
use Rattle.cf_forms.specs.Plans.{function_at}
use Rattle.cf_explain.specs.declared.idle.StageSoFar.{StageSoFar}
use Rattle.cf_explain.specs.Sights.{known_of, untouched}
use Rattle.cf_explain.proofs.Remarking.{known_more}
use Rattle.cf_explain.proofs.idle.stages_of.Goals as goal

pub loop-i-preserved : goal.loop-i-preserved
loop-i-preserved c =
    let stages = c.args.plan.now.stages in
    let i = c.loop-i.i in
    let so_far = c.loop-i.invariant in
    let within : i < length stages = omega (arith, c.loop-i-test.true, so_far.all) in
    let next : suc i ≡ i + 1 = omega arith in
    let here : c.new.result ≡ untouched (is_some (function_at stages i)) = search rules in
    record {
      all = so_far.all;
      so_far =
          c.in_ok-push.ensures.items
          ∙ ap (λ (x : StageSoFar). c.loop-i.stages.items ++ x ∷ []) here
          ∙ ap (λ (xs : List StageSoFar). xs ++ untouched (is_some (function_at stages i)) ∷ []) so_far.so_far
          ∙ known_more stages i within
          ∙ ap (λ (n : ℕ). map known_of (take n stages)) next;
    }
