use Rattle.cf_example.proofs.Led.{goes_leads}
use Rattle.cf_example.proofs.processes.do_move.Goals as goal

pub returns-in-Ends : goal.returns-in-Ends
returns-in-Ends c = goes_leads c.args.stored.now c.args.worker.now c.ends.new.self c.ends.ensures c.requires

pub returns-in-Wants : goal.returns-in-Wants
returns-in-Wants c = goes_leads c.args.stored.now c.args.worker.now c.wants.new.self c.wants.ensures c.requires
