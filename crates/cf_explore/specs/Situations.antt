-- What is read off a situation.
use Rattle.std.specs.Prelude.{List, Option, map}
use Rattle.cf_outcome.specs.declared.outcome.Outcome.{Outcome}
use Rattle.cf_model.specs.States.{outcome_of}
use Rattle.cf_explore.specs.Programs.{Situated}

-- the outcomes of all stages
abbrev pub outcomes_of : Situated → List (Option Outcome)
outcomes_of s = map outcome_of s.state.stages
