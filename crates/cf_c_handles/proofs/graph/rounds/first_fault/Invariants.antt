use Rattle.std.proofs.Common.{All, take}
use Rattle.cf_c_handles.specs.Rounds.{MayFinish}
use Rattle.cf_c_handles.proofs.graph.rounds.first_fault.Given as goal

-- the tasks so far may be finished
abbrev pub invariant-each : goal.invariant-each
invariant-each l = All (MayFinish l.who l.graph.state) (take l.k l.tasks)
