use Rattle.std.proofs.Common.{take}
use Rattle.cf_ledger.specs.Ledgers.{state_of}
use Rattle.cf_request.specs.Relays.{NoneBehind}
use Rattle.cf_request.proofs.relays.first_from.Given as goal

-- none so far is behind
abbrev pub invariant-loop-place : goal.invariant-loop-place
invariant-loop-place l = NoneBehind (take l.place l.relays.follows.items) (state_of l.teller.ledger).stages
