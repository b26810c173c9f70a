use Rattle.cf_example.proofs.OverCalls.{deadlines_met}
use Rattle.cf_example.proofs.keeping.deadlines_are_met.Goals as goal

pub returns : goal.returns
returns c = deadlines_met c.settled_stages_keep_their_outcomes.ensures c.calls_add_behind.ensures
