use Rattle.std.proofs.Common.{◌≡◌}
use Rattle.cf_desk_tests.proofs.desk.room.fills_room.Given as goal

abbrev pub invariant-loop-stage : goal.invariant-loop-stage
invariant-loop-stage l = l.p.table ≡ l.initial.p.table
