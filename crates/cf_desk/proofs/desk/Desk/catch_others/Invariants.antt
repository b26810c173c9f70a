use Rattle.std.proofs.Common.{◌≡◌, ◌-◌, length}
use Rattle.cf_desk.specs.Views.{Follows}
use Rattle.cf_desk.proofs.desk.Desk.catch_others.Given as goal

abbrev pub invariant-next : goal.invariant-next
invariant-next l = Follows l.initial.p l.p × (l.p.known.looks ≡ l.initial.p.known.looks)

abbrev pub decreases-next : goal.decreases-next
decreases-next l = l.words - length l.p.known.seen
