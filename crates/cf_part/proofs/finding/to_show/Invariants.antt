use Rattle.cf_ledger.specs.Ledgers.{state_of}
use Rattle.cf_part.specs.Steps.{NoneToShow}
use Rattle.cf_part.proofs.finding.to_show.Given as goal

-- none so far is to be shown
abbrev pub invariant-loop-stage : goal.invariant-loop-stage
invariant-loop-stage l = NoneToShow l.wanted l.is_broken l.now (state_of l.ledger) l.stage
