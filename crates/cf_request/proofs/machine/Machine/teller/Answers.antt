use Rattle.std.proofs.Common.{subst}
use Rattle.cf_ledger.specs.Ledgers.{state_of}
use Rattle.cf_request.specs.Machines.{Machine, state_in}
use Rattle.cf_request.specs.Scopes.{NoneOutlives}
use Rattle.cf_request.proofs.Ends.{none_outlives}
use Rattle.cf_request.proofs.machine.Machine.teller.Goals as goal

pub returns-clause-scopes : goal.returns-clause-scopes
returns-clause-scopes c =
    let m = c.self.inside in
    subst (λ (x : Machine). NoneOutlives x.follows (state_in x)) c.self.view_is (none_outlives (state_of m.teller.ledger) m.relays.follows.items c.self.invariant.0.relays c.self.invariant.1)
