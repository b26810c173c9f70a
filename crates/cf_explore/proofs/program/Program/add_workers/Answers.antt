use Rattle.std.proofs.Common.{add-one, append_assoc}
use Rattle.cf_explore.proofs.program.Program.add_workers.Goals as goal

pub loop-w-preserved : goal.loop-w-preserved
loop-w-preserved c = rw (c.in_ok-add_by_hand.ensures, c.loop-w.invariant, add-one, append_assoc)
