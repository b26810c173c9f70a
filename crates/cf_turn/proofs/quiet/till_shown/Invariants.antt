use Rattle.cf_turn.specs.Quiets.{IsTillShown}
use Rattle.cf_turn.proofs.quiet.till_shown.Given as goal

-- none so far is shown before
abbrev pub invariant-loop-stage : goal.invariant-loop-stage
invariant-loop-stage l = IsTillShown l.wanted l.now l.until l.stage
