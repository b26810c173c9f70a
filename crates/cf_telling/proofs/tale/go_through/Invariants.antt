use Rattle.std.specs.Prelude.{take}
use Rattle.cf_ledger.specs.Ledgers.{state_of}
use Rattle.cf_telling.proofs.Tales.{HasTold}
use Rattle.cf_telling.proofs.tale.go_through.Given as goal

-- the words so far are told
abbrev pub invariant-loop-place : goal.invariant-loop-place
invariant-loop-place l = HasTold (state_of l.initial.ledger) (take l.place l.words) l.entries.items (state_of l.ledger)
