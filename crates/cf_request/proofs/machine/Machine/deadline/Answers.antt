use Rattle.std.proofs.Common.{arith}
use Rattle.cf_request.proofs.Machines.{kept_set}
use Rattle.cf_request.proofs.machine.Machine.deadline.Goals as goal

pub invariant_of-self-2 : goal.invariant_of-self-2
invariant_of-self-2 c =
    let m = c.self.inside in (
      kept_set m.teller m.relays.follows.items m.deadlines.items c.set.new.deadlines.items m.own c.args.deadline c.self.invariant.0 (omega (arith, c.stages.ensures.count, c.if-deadline-stages.false)) c.in_ok-set.ensures.set,
      c.self.invariant.1,
      c.self.invariant.2,
      c.self.invariant.3,
    )
