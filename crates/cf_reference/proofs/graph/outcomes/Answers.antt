use Rattle.std.proofs.lemmas.List.{map_more}
use Rattle.cf_model.specs.declared.stage.Stage.TheVariants.{Pending}
use Rattle.cf_model.specs.States.{outcome_of}
use Rattle.cf_reference.proofs.graph.outcomes.Goals as goal

pub loop-stage-preserved : goal.loop-stage-preserved
loop-stage-preserved c =
    rw (c.in_ok-push.ensures.items, c.outcome.ensures, c.loop-stage.invariant, map_more outcome_of c.args.stages.now c.loop-stage.stage-index Pending c.loop-stage-test.true)
