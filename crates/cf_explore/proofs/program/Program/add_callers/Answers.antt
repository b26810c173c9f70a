use Rattle.std.proofs.Common.{add-one, append_assoc}
use Rattle.cf_explore.proofs.program.Program.add_callers.Goals as goal

pub loop-c-preserved : goal.loop-c-preserved
loop-c-preserved c = rw (c.in_ok-add_step.ensures, c.loop-c.invariant, c.step.ensures.step, add-one, append_assoc)
