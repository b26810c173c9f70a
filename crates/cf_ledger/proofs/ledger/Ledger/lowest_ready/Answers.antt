use Rattle.std.proofs.Common.{length}
use Rattle.cf_ledger.specs.Ledgers.{state_of}
use Rattle.cf_ledger.proofs.Ready.{lowest_is}
use Rattle.cf_ledger.proofs.Words.{all_states}
use Rattle.cf_ledger.proofs.ledger.Ledger.lowest_ready.Goals as goal

pub returns : goal.returns
returns c =
    let l = c.args.self.now in
    let s = state_of l in
    let r = c.next_ready.ensures in
    lowest_is s.stages (length s.plan.stages) c.next_ready.result (all_states l.plan l.events) r.ready r.there r.first r.none
