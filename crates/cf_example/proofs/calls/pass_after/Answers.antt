use Rattle.cf_example.proofs.AnyRow.{passed}
use Rattle.cf_example.proofs.calls.pass_after.Goals as goal

pub returns-in-Ok : goal.returns-in-Ok
returns-in-Ok c = passed c.settled_stages_keep_their_outcomes.ensures c.calls_add_behind.ensures c.args.calls.now c.args.moment c.args.machine.now c.make_all.new.machine c.pass.new.self c.in_ok-make_all.ensures c.in-Ok.ensures.passes
