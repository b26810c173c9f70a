use Rattle.std.proofs.Common.{◌≤◌, arith, subst}
use Rattle.cf_ledger.specs.Ledgers.{stages_of}
use Rattle.cf_request.specs.Telling.{Teller}
use Rattle.cf_request.proofs.teller.Teller.apply_event.Goals as goal

pub encode-requires : goal.encode-requires
encode-requires c = c.requires.is (subst (λ (t : Teller). stages_of t.ledger ≤ 4096) c.self.view_is (let most = c.self.invariant.0.most in omega (arith, most)))
