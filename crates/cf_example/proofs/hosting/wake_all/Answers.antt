use Rattle.std.proofs.Common.{List, ℕ, subst, sym}
use Rattle.std.proofs.lemmas.List.{take_more}
use Rattle.cf_example.specs.Hosting.{AreWoken}
use Rattle.cf_example.proofs.Hosts.{woken_push}
use Rattle.cf_example.proofs.hosting.wake_all.Goals as goal

pub loop-stage-preserved : goal.loop-stage-preserved
loop-stage-preserved g c =
    let stages = c.args.stages.now in
    let i = c.loop-stage.stage-index in
    subst (λ (l : List ℕ). AreWoken g.W.Waiters.wakes c.args.waiters.now l c.wake.new.self) (sym (take_more stages i 0 c.loop-stage-test.true))
    (woken_push g.W.Waiters.wakes c.args.waiters.now c.loop-stage.waiters c.wake.new.self _ _ c.loop-stage.invariant c.wake.ensures)
