use Rattle.std.proofs.Common.{◌≡◌, drop, length}
use Rattle.cf_core.specs.Keeping.Starts.{mark_those}
use Rattle.cf_core.proofs.stages.mark_those.Given as goal

-- those that are left lead to what all lead to
abbrev pub invariant-loop-i : goal.invariant-loop-i
invariant-loop-i l = record {
  marked : mark_those (drop l.i-index l.stages) l.marks ≡ mark_those l.stages l.initial.marks;
  all : length l.marks ≡ length l.initial.marks;
}
