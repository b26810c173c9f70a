use Rattle.std.proofs.Common.{◌≡◌, drop, length}
use Rattle.cf_core.specs.Keeping.Starts.{mark_starts}
use Rattle.cf_core.proofs.stages.mark_attached.Given as goal

-- those that are left lead to what all lead to
abbrev pub invariant-loop-i : goal.invariant-loop-i
invariant-loop-i l = record {
  marked : mark_starts l.i (drop l.i l.plan.stages) l.marks ≡ mark_starts l.first (drop l.first l.plan.stages) l.initial.marks;
  all : length l.marks ≡ length l.plan.stages;
}
