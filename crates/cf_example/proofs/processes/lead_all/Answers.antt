use Rattle.cf_example.proofs.Led.{grows_not, grows_on}
use Rattle.cf_example.proofs.processes.lead_all.Goals as goal

pub loop-step-init : goal.loop-step-init
loop-step-init c = (grows_not c.args.stored.now, c.requires)

pub loop-step-preserved : goal.loop-step-preserved
loop-step-preserved c =
    (grows_on c.args.stored.now c.loop-step.stored c.do_step.new.stored c.loop-step.invariant.0 c.in_ok-do_step.ensures.grows, c.in_ok-do_step.ensures.led)
