use Rattle.cf_example.specs.Sharing.{Share}
use Rattle.cf_example.proofs.sharing.share.Given as goal

-- what each has taken is its own
abbrev pub invariant-loop-turn : goal.invariant-loop-turn
invariant-loop-turn l = Share l.store l.first l.second l.ones.items l.others.items
