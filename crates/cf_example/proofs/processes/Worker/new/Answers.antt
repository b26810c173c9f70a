use Rattle.cf_example.proofs.Led.{new_led}
use Rattle.cf_example.proofs.processes.Worker.new.Goals as goal

pub returns-clause-led : goal.returns-clause-led
returns-clause-led c = new_led c.args.stored.now _ 2 10000 c.new.ensures c.new-2.ensures.items
