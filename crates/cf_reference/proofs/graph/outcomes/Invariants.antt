use Rattle.std.proofs.Common.{◌≡◌, map, take}
use Rattle.cf_model.specs.States.{outcome_of}
use Rattle.cf_reference.proofs.graph.outcomes.Given as goal

-- the outcomes of the stages so far
abbrev pub invariant-loop-stage : goal.invariant-loop-stage
invariant-loop-stage l = l.outcomes.items ≡ map outcome_of (take l.stage-index l.stages)
