use Rattle.cf_ledger.specs.Ledgers.{state_of}
use Rattle.cf_row.specs.Grants.{NoneHeldIn}
use Rattle.cf_row.proofs.grants.held_in.Given as goal

-- none so far is the session's
abbrev pub invariant-loop-stage : goal.invariant-loop-stage
invariant-loop-stage l = NoneHeldIn l.claims (state_of l.ledger) l.session l.from l.stage
