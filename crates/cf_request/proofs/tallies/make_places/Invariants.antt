use Rattle.std.proofs.Common.{◌≡◌, ◌-◌, ℕ, length}
use Rattle.cf_request.specs.Tallies.{spare_at}
use Rattle.cf_request.proofs.tallies.make_places.Given as goal

-- what is kept stays
abbrev pub invariant-loop-spares : goal.invariant-loop-spares
invariant-loop-spares l = (i : ℕ) → spare_at l.spares.items i ≡ spare_at l.initial.spares.items i

abbrev pub decreases-loop-spares : goal.decreases-loop-spares
decreases-loop-spares l = l.count - length l.spares.items
