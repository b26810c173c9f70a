use Rattle.std.proofs.Common.{◌-◌}
use Rattle.cf_row.specs.Rows.{stages_of}
use Rattle.cf_turn.specs.Closing.{NobodyAtWork}
use Rattle.cf_turn.proofs.closing.nobody_at_work.Given as goal

-- nobody is so far
abbrev pub invariant-loop-claim : goal.invariant-loop-claim
invariant-loop-claim l = NobodyAtWork l.view l.watch l.from

abbrev pub decreases-loop-claim : goal.decreases-loop-claim
decreases-loop-claim l = stages_of l.view - l.from
