use Rattle.cf_example.proofs.Led.{called_once}
use Rattle.cf_example.proofs.processes.lead.Goals as goal

pub returns-clause-once : goal.returns-clause-once
returns-clause-once c =
    called_once c.one_process_calls_each_function_of_a_request.ensures c.lead_all.new.stored c.args.sessions.now c.lead_all.new.workers.items c.requires.apart c.in_ok-lead_all.ensures.led
