use Rattle.std.proofs.Common.{◌≡◌, ◌<◌, All, length, set, []}
use Rattle.cf_core.specs.Keeping.Links.{list_at}
use Rattle.cf_core.specs.Keeping.Sound.{mark_all}
use Rattle.cf_core.proofs.mark.mark_linked.Given as goal

-- those that are left lead to what all lead to, and the other lists stay
abbrev pub invariant-loop-i : goal.invariant-loop-i
invariant-loop-i l = record {
  marked : mark_all l.kept.items (list_at l.links l.target) l.marks ≡ mark_all l.kept.items (list_at l.initial.links l.target) l.initial.marks;
  emptied : set l.links l.target [] ≡ set l.initial.links l.target [];
  all : length l.marks ≡ length l.kept.items;
  linked : All (λ i. i < length l.kept.items) (list_at l.links l.target);
}

abbrev pub decreases-loop-i : goal.decreases-loop-i
decreases-loop-i l = length (list_at l.links l.target)
