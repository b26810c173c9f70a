use Rattle.std.proofs.Common.{◌-◌}
use Rattle.cf_row.specs.Rows.{stages_of}
use Rattle.cf_due.specs.Abandoning.{NoneToAbandon}
use Rattle.cf_due.proofs.abandoning.next_of_gone.Given as goal

-- none is there so far
abbrev pub invariant-loop-claim : goal.invariant-loop-claim
invariant-loop-claim l = NoneToAbandon l.view l.watch l.from

abbrev pub decreases-loop-claim : goal.decreases-loop-claim
decreases-loop-claim l = stages_of l.view - l.from
