use Rattle.cf_ledger.specs.Ledgers.{state_of}
use Rattle.cf_row.specs.Next.{NoneToClaimIn}
use Rattle.cf_row.proofs.next.next_in.Given as goal

-- none so far could be claimed
abbrev pub invariant-loop-stage : goal.invariant-loop-stage
invariant-loop-stage l = NoneToClaimIn l.claims (state_of l.ledger) l.session l.fn.ended l.from l.stage
