use Rattle.std.proofs.Common.{◌≡◌, map, take}
use Rattle.cf_model.specs.States.{outcome_in}
use Rattle.cf_reference.proofs.stages.outcomes_of.Given as goal

-- the outcomes of the sources so far
abbrev pub invariant-loop-j : goal.invariant-loop-j
invariant-loop-j l = l.outcomes.items ≡ map (outcome_in l.below) (take l.j-index l.sources)
