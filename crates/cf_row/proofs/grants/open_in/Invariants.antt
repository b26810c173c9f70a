use Rattle.cf_ledger.specs.Ledgers.{state_of}
use Rattle.cf_row.specs.Grants.{NoneOpen}
use Rattle.cf_row.proofs.grants.open_in.Given as goal

-- none so far is open
abbrev pub invariant-loop-stage : goal.invariant-loop-stage
invariant-loop-stage l = NoneOpen l.from l.stage (state_of l.ledger)
