use Rattle.std.proofs.Common.{◌≡◌, ◌<◌, All, length}
use Rattle.cf_core.specs.Keeping.Sound.{mark_all}
use Rattle.cf_core.proofs.mark.mark_attached_dependents.Given as goal

-- those that are left lead to what all lead to
abbrev pub invariant-loop-i : goal.invariant-loop-i
invariant-loop-i l = record {
  marked : mark_all l.kept.items l.rest l.marks ≡ mark_all l.kept.items l.initial.rest l.initial.marks;
  all : length l.marks ≡ length l.kept.items;
  within : All (λ i. i < length l.kept.items) l.rest;
}

abbrev pub decreases-loop-i : goal.decreases-loop-i
decreases-loop-i l = length l.rest
