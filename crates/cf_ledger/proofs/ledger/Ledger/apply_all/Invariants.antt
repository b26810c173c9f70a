use Rattle.std.specs.Prelude.{take}
use Rattle.cf_ledger.specs.Ledgers.{DoesAll}
use Rattle.cf_ledger.proofs.ledger.Ledger.apply_all.Given as goal

-- the words so far are done
abbrev pub invariant-loop-place : goal.invariant-loop-place
invariant-loop-place l = DoesAll l.initial.self (take l.place l.words) l.self
