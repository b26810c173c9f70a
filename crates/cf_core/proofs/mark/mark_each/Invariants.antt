use Rattle.std.proofs.Common.{◌≡◌, drop, length}
use Rattle.cf_core.specs.Keeping.Sound.{mark_all}
use Rattle.cf_core.proofs.mark.mark_each.Given as goal

-- those that are left lead to what all lead to
abbrev pub invariant-loop-i : goal.invariant-loop-i
invariant-loop-i l = record {
  marked : mark_all l.kept.items (drop l.i-index l.stages) l.marks ≡ mark_all l.kept.items l.stages l.initial.marks;
  all : length l.marks ≡ length l.kept.items;
}
