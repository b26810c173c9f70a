use Rattle.std.proofs.lemmas.List.{map_more}
use Rattle.cf_model.specs.States.{outcome_in}
use Rattle.cf_reference.proofs.stages.outcomes_of.Goals as goal

pub loop-j-preserved : goal.loop-j-preserved
loop-j-preserved c =
    rw (c.in_ok-push.ensures.items, c.outcome_in.ensures, c.loop-j.invariant, map_more (outcome_in c.args.below.now) c.args.sources.now c.loop-j.j-index 0 c.loop-j-test.true)
