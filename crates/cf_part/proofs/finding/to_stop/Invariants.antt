use Rattle.cf_ledger.specs.Ledgers.{state_of}
use Rattle.cf_part.specs.Steps.{NoneToStop}
use Rattle.cf_part.proofs.finding.to_stop.Given as goal

-- none so far is to be stopped
abbrev pub invariant-loop-stage : goal.invariant-loop-stage
invariant-loop-stage l = NoneToStop l.calls (state_of l.ledger) l.stage
