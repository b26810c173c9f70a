use Rattle.std.proofs.Common.{◌≡◌, arith, drop}
use Rattle.cf_explain.specs.Sights.{idles_from, sight_of}
use Rattle.cf_explain.proofs.Remarking.{all_fit, idles_done, idles_more, idles_stop}
use Rattle.cf_explain.proofs.idle.idle_of.Goals as goal

pub returns-then-k-gt-LAST : goal.returns-then-k-gt-LAST
returns-then-k-gt-LAST c =
    let limits = c.args.limits.now in
    let steps = c.args.steps.now in
    let all = idles_from limits (sight_of c.args.seen) 0 steps in
    let said = c.steps.remarks.items in
    let exact : said ≡ all = idles_stop limits (sight_of c.steps.seen) c.steps.k (drop c.steps.k steps) said all (omega (arith, c.if-k-gt-LAST.true)) c.steps.invariant in
    record { of_steps = all_fit limits steps (sight_of c.args.seen) said exact; exact = exact }

pub returns-clause-of_steps : goal.returns-clause-of_steps
returns-clause-of_steps c =
    let limits = c.args.limits.now in
    let steps = c.args.steps.now in
    let all = idles_from limits (sight_of c.args.seen) 0 steps in
    let said = c.steps.remarks.items in
    all_fit limits steps (sight_of c.args.seen) said (idles_done limits (sight_of c.steps.seen) c.steps.k steps said all (omega (arith, c.steps-test.false)) c.steps.invariant)

pub steps-preserved : goal.steps-preserved
steps-preserved c =
    let limits = c.args.limits.now in
    let steps = c.args.steps.now in
    idles_more limits (sight_of c.steps.seen) (sight_of c.after_step.new.self) c.steps.k steps _ c.steps.remarks.items c.remark_step.new.remarks.items (idles_from limits (sight_of c.args.seen) 0 steps)
    (omega (arith, c.steps-test.true)) (omega (arith, c.if-k-gt-LAST.false)) c.in_ok-remark_step.ensures c.in_ok-after_step.ensures c.steps.invariant
