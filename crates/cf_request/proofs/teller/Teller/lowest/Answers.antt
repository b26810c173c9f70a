use Rattle.std.proofs.Common.{◌<◌, length, subst, sym}
use Rattle.std.specs.Prelude.{IfNone, IfSome}
use Rattle.cf_ledger.specs.Ledgers.{state_of}
use Rattle.cf_ledger.proofs.Words.{all_states}
use Rattle.cf_request.specs.Lanes.{IsLowestIn, NothingIsReady}
use Rattle.cf_request.specs.Telling.{Teller}
use Rattle.cf_request.proofs.Sets.{lowest_few, lowest_none, lowest_some}
use Rattle.cf_request.proofs.teller.Teller.lowest.Goals as goal

there : (c : goal.After-lowest) → c.args.lane < length c.self.inside.lanes.sets
there c = subst (λ (x : Teller). c.args.lane < x.lanes.count) (sym c.self.view_is) c.requires

pub returns-clause-few : goal.returns-clause-few
returns-clause-few c =
    let t = c.self.inside in
    lowest_few (state_of t.ledger) t.lanes.of c.args.lane c.lowest.result c.self.invariant.0.most
    (lowest_some (state_of t.ledger) t.lanes c.args.lane c.lowest.result c.self.invariant.1 (there c) (all_states t.ledger.plan t.ledger.events) c.lowest.ensures)

pub returns-clause-lowest : goal.returns-clause-lowest
returns-clause-lowest c =
    let t = c.self.inside in
    subst (λ (x : Teller). IfSome c.lowest.result (λ i. IsLowestIn (state_of x.ledger) x.lanes.of c.args.lane i)) c.self.view_is
    (lowest_some (state_of t.ledger) t.lanes c.args.lane c.lowest.result c.self.invariant.1 (there c) (all_states t.ledger.plan t.ledger.events) c.lowest.ensures)

pub returns-clause-none : goal.returns-clause-none
returns-clause-none c =
    let t = c.self.inside in
    subst (λ (x : Teller). IfNone c.lowest.result (NothingIsReady x c.args.lane)) c.self.view_is
    (lowest_none (state_of t.ledger) t.lanes c.args.lane c.lowest.result c.self.invariant.1 (there c) c.lowest.ensures)
