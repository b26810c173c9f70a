use Rattle.std.proofs.Common.{List}
use Rattle.cf_ledger.specs.declared.step.Taken.{Taken}
use Rattle.cf_request.specs.Machines.{state_in}
use Rattle.cf_request.specs.Rows.{unclaimed}
use Rattle.cf_example.specs.Hosting.{AreTurns}
use Rattle.cf_example.proofs.hosting.run_lane.Given as goal

-- so far there were turns
abbrev pub invariant-turns : goal.invariant-turns
invariant-turns g l =
    (ts : List Taken) × AreTurns g.F.Functions.calls g.W.Waiters.wakes l.who l.lane
    (record { machine = l.initial.machine; functions = l.initial.functions; waiters = l.initial.waiters; held = l.initial.holds }) ts
    (record { machine = l.machine; functions = l.functions; waiters = l.waiters; held = l.holds })

abbrev pub decreases-turns : goal.decreases-turns
decreases-turns g l = unclaimed (state_in l.machine)
