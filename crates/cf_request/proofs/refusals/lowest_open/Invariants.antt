use Rattle.std.proofs.Common.{◌≡◌, ℕ, ◌<◌, true}
use Rattle.cf_ledger.specs.Ledgers.{state_of}
use Rattle.cf_request.specs.Telling.{is_settled_in}
use Rattle.cf_request.proofs.refusals.lowest_open.Given as goal

-- those so far are settled
abbrev pub invariant-loop-stage : goal.invariant-loop-stage
invariant-loop-stage l = (k : ℕ) → k < l.stage → is_settled_in (state_of l.teller.ledger).stages k ≡ true
