use Rattle.std.specs.Prelude.{map}
use Rattle.cf_desk.specs.Keepings.{caller_kept}
use Rattle.cf_example.proofs.Settled.{settlers_stay}
use Rattle.cf_example.proofs.close_two.Goals as goal

pub returns-clause-settlers : goal.returns-clause-settlers
returns-clause-settlers c =
    let closed = c.in_ok-close.field-0 in
    settlers_stay c.args.desk.setting.plan c.args.desk.setting.functions closed.history.items (map caller_kept closed.passes.items) closed.graph.state c.in_ok-close.ensures.one c.in_ok-close.ensures.shows c.in_ok-close.ensures.graph
