use Rattle.std.proofs.Common.{◌-◌}
use Rattle.cf_row.specs.Rows.{stages_of}
use Rattle.cf_turn.specs.Quiets.{OnlyOwn}
use Rattle.cf_turn.proofs.quiet.only_own.Given as goal

-- those so far are its own
abbrev pub invariant-loop-claim : goal.invariant-loop-claim
invariant-loop-claim l = OnlyOwn l.view l.from

abbrev pub decreases-loop-claim : goal.decreases-loop-claim
decreases-loop-claim l = stages_of l.view - l.from
