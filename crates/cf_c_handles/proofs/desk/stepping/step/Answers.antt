use Rattle.cf_c_handles.proofs.DeskSteps.{steps_at}
use Rattle.cf_c_handles.proofs.desk.stepping.step.Goals as goal

pub returns : goal.returns
returns c = steps_at c.args.held.now c.in-Caller.caller c.step.new.self c.args.task.now c.step.new.task c.step.result c.in-Caller.is c.step.ensures.same c.step.ensures.steps
