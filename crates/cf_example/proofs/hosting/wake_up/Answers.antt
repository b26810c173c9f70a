use Rattle.cf_example.proofs.Hosts.{later_next}
use Rattle.cf_example.proofs.hosting.wake_up.Goals as goal

pub returns-in-Some-clause-later : goal.returns-in-Some-clause-later
returns-in-Some-clause-later g c =
    later_next g.W.Waiters.wakes c.args.moment c.args.machine.now c.pass.new.self c.hand_out.new.machine c.args.waiters.now c.hand_out.new.waiters c.in-Some.deadline c.in_ok-pass.ensures.passes c.hand_out.ensures.hands_out c.in-Some.ensures.next
