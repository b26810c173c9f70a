use Rattle.std.proofs.Common.{◌≡◌, length, map, sym, ap, ◌∙◌, subst, arith}
use Rattle.cf_event.specs.Histories.{IsOneHistory}
use Rattle.cf_desk.specs.Keepings.{AllFit, caller_kept}
use Rattle.cf_desk.proofs.Histories.{one_history_shows, one_of_kept}
use Rattle.cf_desk.proofs.Closing.{Shown, shown_as}
use Rattle.cf_desk.proofs.desk.Desk.close.Goals as goal
use Rattle.cf_desk.proofs.desk.Desk.close.Goals.{After-free}

pub free-requires : goal.free-requires
free-requires c = λ k lt. absurd (let n = c.close_with-closed.ensures.counts.1 in let z = c.self.invariant.slots in omega arith)

shown : (c : After-free) → Shown c.args.self c.args.passes.items (c.gather-seat.ensures.replica).0 c.gather-seat.result.1.state c.decode_row-history.result.items
shown c =
    let len : length c.args.passes.items ≡ c.args.self.setting.callers = (let a = c.requires.all in let o = c.args.passes.ok.0 in omega arith) in
    let key = c.self.invariant.key in
    let is = (λ i. record { table = c.self.inside.table.shared.table_id; setting = (key i).setting; words = (key i).words }) ∙ c.self.view_is in
    shown_as c.self.inside.table.shared.table_id c.self.inside.table.shared.key _ _ c.gather-seat.result.0.id c.gather-seat.result.0.me.0 c.args.passes.items c.args.self _ _ _
    is (ap (λ m. m.0) c.gather-seat.ensures.seat.1) len c.gather-seat.ensures.callers c.gather-seat.ensures.fit (c.gather-seat.ensures.replica).1 c.decode_row-history.ensures c.close_with-closed.ensures.values.2

pub returns-clause-history : goal.returns-clause-history
returns-clause-history c = (shown (goal.at.returns-clause-history c).After-free).closes

pub returns-clause-fit : goal.returns-clause-fit
returns-clause-fit c = subst (AllFit c.args.self.setting.plan c.decode_row-history.result.items) (sym c.gather-seat.ensures.kept) (shown (goal.at.returns-clause-fit c).After-free).fit

pub returns-clause-graph : goal.returns-clause-graph
returns-clause-graph c = (shown (goal.at.returns-clause-graph c).After-free).latest

one : (c : After-free) → IsOneHistory c.args.self.setting.plan c.args.self.setting.functions c.decode_row-history.result.items (map caller_kept c.gather-seat.result.2.items)
one c =
    let len : length c.args.passes.items ≡ c.args.self.setting.callers = (let a = c.requires.all in let o = c.args.passes.ok.0 in omega arith) in
    one_of_kept c.args.self.setting.plan c.args.self.setting.callers c.args.self.setting.functions c.decode_row-history.result.items c.gather-seat.result.2.items c.args.passes.items
    c.gather-seat.ensures.kept len (shown c).closes.events
    (subst (AllFit c.args.self.setting.plan c.decode_row-history.result.items) (sym c.gather-seat.ensures.kept) (shown c).fit)

pub returns-clause-one : goal.returns-clause-one
returns-clause-one c = one (goal.at.returns-clause-one c).After-free

pub returns-clause-shows : goal.returns-clause-shows
returns-clause-shows c =
    let here = (goal.at.returns-clause-shows c).After-free in
    one_history_shows c.args.self.setting.plan c.args.self.setting.functions c.decode_row-history.result.items (map caller_kept c.gather-seat.result.2.items) c.gather-seat.result.1.state
    (one here) (shown here).latest
