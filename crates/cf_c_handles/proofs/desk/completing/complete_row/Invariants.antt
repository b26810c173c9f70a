use Rattle.std.proofs.Common.{take}
use Rattle.cf_desk.specs.Views.{IsSamePass}
use Rattle.cf_c_handles.specs.DeskTasks.{AreCompleted}
use Rattle.cf_c_handles.proofs.desk.completing.complete_row.Given as goal

-- the stages so far are completed
abbrev pub invariant-each : goal.invariant-each
invariant-each l = record {
  same : IsSamePass l.initial.pass l.pass;
  front : AreCompleted l.desk (take l.k l.given) l.initial.pass l.pass;
}
