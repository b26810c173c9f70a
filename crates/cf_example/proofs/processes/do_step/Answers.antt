use Rattle.std.proofs.Common.{◌<◌, arith, length}
use Rattle.cf_example.proofs.Led.{one_led, step_grows, step_led}
use Rattle.cf_example.proofs.processes.do_step.Goals as goal

pub do_move-requires : goal.do_move-requires
do_move-requires c =
    let within : c.args.step.worker < length c.args.workers.now.items = omega (arith, c.if-step-len.false, c.len.ensures, c.args.workers.now.ok.0) in
    one_led c.args.stored.now c.args.sessions.now c.args.workers.now.items c.args.step.worker c.index_mut.result.now within c.index_mut.ensures.value c.requires

pub returns-clause-grows : goal.returns-clause-grows
returns-clause-grows c = step_grows c.do_move.result c.args.stored.now c.do_move.new.stored c.index_mut.result.now c.do_move.new.worker c.do_move.ensures

pub returns-clause-led : goal.returns-clause-led
returns-clause-led c =
    step_led c.do_move.result c.args.stored.now c.do_move.new.stored c.args.sessions.now c.args.workers.now.items c.args.step.worker c.index_mut.result.now c.do_move.new.worker c.index_mut.ensures.value c.requires
    c.do_move.ensures
