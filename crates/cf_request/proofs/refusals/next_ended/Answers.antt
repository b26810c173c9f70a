use Rattle.std.proofs.Common.{ℕ, List, ap, length}
use Rattle.cf_ledger.specs.Ledgers.{state_of}
use Rattle.cf_request.proofs.Behind.{looked_none}
use Rattle.cf_request.proofs.refusals.next_ended.Goals as goal

pub returns-clause-seen : goal.returns-clause-seen
returns-clause-seen c = looked_none _ c.args.teller.now.told c.args.relays.now.follows.items (state_of c.args.teller.now.ledger).stages (ap (λ (l : List ℕ). length l) c.told.ensures.told) c.in_default.ensures.none
