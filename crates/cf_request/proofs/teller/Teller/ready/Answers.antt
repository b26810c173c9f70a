use Rattle.std.proofs.Common.{◌≡◌, ◌<◌, ◌∙◌, length, subst, sym}
use Rattle.cf_ledger.specs.Ledgers.{state_of}
use Rattle.cf_ledger.proofs.Words.{all_states}
use Rattle.cf_request.specs.Lanes.{ready_in}
use Rattle.cf_request.specs.Telling.{Teller}
use Rattle.cf_request.proofs.Sets.{ready_is}
use Rattle.cf_request.proofs.teller.Teller.ready.Goals as goal

pub returns : goal.returns
returns c =
    let t = c.self.inside in
    let there : c.args.lane < length t.lanes.sets = subst (λ (x : Teller). c.args.lane < x.lanes.count) (sym c.self.view_is) c.requires in
    subst (λ (x : Teller). c.ready.result ≡ ready_in x c.args.lane) c.self.view_is
    (c.ready.ensures.count ∙ ready_is (state_of t.ledger) t.lanes c.args.lane c.ready.ensures.sets c.self.invariant.1 there (all_states t.ledger.plan t.ledger.events))
