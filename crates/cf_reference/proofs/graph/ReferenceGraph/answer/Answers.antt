use Rattle.std.proofs.Common.{ap}
use Rattle.cf_model.specs.declared.events.Reply.TheVariants.{Flag, Claim, Finish, Tick, Attach}
use Rattle.cf_model.specs.Events.{told_as}
use Rattle.cf_reference.proofs.graph.ReferenceGraph.answer.Goals as goal

pub returns-in_ok-done-in-Complete : goal.returns-in_ok-done-in-Complete
returns-in_ok-done-in-Complete c = rw c.in-Complete.is (ap (told_as Flag) c.in_ok-done-in-Complete.ensures)

pub returns-in_ok-done-in-Cancel : goal.returns-in_ok-done-in-Cancel
returns-in_ok-done-in-Cancel c = rw c.in-Cancel.is (ap (told_as Flag) c.in_ok-done-in-Cancel.ensures)

pub returns-in_ok-done-in-Finish : goal.returns-in_ok-done-in-Finish
returns-in_ok-done-in-Finish c = rw c.in-Finish.is (ap (told_as Finish) c.in_ok-done-in-Finish.ensures)

pub returns-in_ok-done-in-Tick : goal.returns-in_ok-done-in-Tick
returns-in_ok-done-in-Tick c = rw c.in-Tick.is (ap (told_as Tick) c.in_ok-done-in-Tick.ensures)

pub returns-in_ok-done-in-Attach : goal.returns-in_ok-done-in-Attach
returns-in_ok-done-in-Attach c = rw c.in-Attach.is (ap (told_as Attach) c.in_ok-done-in-Attach.ensures)

pub returns-in-Claim : goal.returns-in-Claim
returns-in-Claim c = rw c.in-Claim.is (ap (told_as Claim) c.claim.ensures)
