use Rattle.std.proofs.Common.{◌+◌, ap, arith, length, subst}
use Rattle.cf_model.specs.States.{start}
use Rattle.cf_event.specs.Decoding.{decoded}
use Rattle.cf_forms.specs.Plans.{with_room}
use Rattle.cf_ledger.specs.Ledgers.{Ledger, state_at}
use Rattle.cf_model.specs.Graphs.{AreNews}
use Rattle.cf_ledger.proofs.Words.{noted_at, noted_count}
use Rattle.cf_ledger.proofs.ledger.Ledger.news.Goals as goal

pub at-requires : goal.at-requires
at-requires c =
    let l = c.self.inside.book in
    let plan = with_room l.plan l.room in
    let count = noted_count (start plan) (decoded l.words.items) l.news.lists c.self.invariant.kept.noted in
    let is = ap (λ (x : Ledger). length x.events) c.self.view_is in
    let place = c.requires in
    omega (arith, count, is, place)

pub returns : goal.returns
returns c =
    let l = c.self.inside.book in
    let plan = with_room l.plan l.room in
    subst (λ (x : Ledger). AreNews (state_at x c.args.place).stages (state_at x (c.args.place + 1)).stages c.at.result.now) c.self.view_is
    (noted_at (start plan) (decoded l.words.items) l.news.lists c.args.place c.at.result.now c.self.invariant.kept.noted c.at.ensures)
