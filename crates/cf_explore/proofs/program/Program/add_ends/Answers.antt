use Rattle.cf_explore.proofs.Ending.{ends-step}
use Rattle.cf_explore.proofs.program.Program.add_ends.Goals as goal

pub loop-entry-preserved : goal.loop-entry-preserved
loop-entry-preserved c =
    ends-step c.args.self.now c.args.moves c.args.entries.now c.loop-entry.entry-index c.entry-item.result c.args.ends.now.items c.loop-entry.ends.items c.add_if_end.new.ends.items c.loop-entry-test.true c.entry-item.is c.loop-entry.invariant c.in_ok-add_if_end.ensures
