use Rattle.std.proofs.Common.{take}
use Rattle.cf_forms.specs.Plans.{with_room}
use Rattle.cf_model.specs.States.{start}
use Rattle.cf_history.specs.Histories.{AllRight}
use Rattle.cf_history.proofs.checking.judge_callers.Given as goal

abbrev pub invariant-loop-caller : goal.invariant-loop-caller
invariant-loop-caller l = AllRight (start (with_room l.plan l.room)) l.events 0 (take l.caller l.callers)
