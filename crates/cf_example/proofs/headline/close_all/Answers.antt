use Rattle.std.specs.Prelude.{map}
use Rattle.cf_desk.specs.Keepings.{caller_kept}
use Rattle.cf_example.proofs.Settled.{settlers_stay}
use Rattle.cf_example.proofs.headline.close_all.Goals as goal

pub returns-in-Ok-clause-settlers : goal.returns-in-Ok-clause-settlers
returns-in-Ok-clause-settlers c =
    let closed = c.in-Ok.closed in
    settlers_stay c.args.desk.setting.plan c.args.desk.setting.functions closed.history.items (map caller_kept closed.passes.items) closed.graph.state c.in-Ok.ensures.one c.in-Ok.ensures.shows c.in-Ok.ensures.graph
