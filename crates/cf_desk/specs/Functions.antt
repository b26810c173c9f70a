-- How many functions a plan needs.
use Rattle.std.specs.Prelude.{ℕ, ◌+◌, max, Option, Some, None, List, [], ◌∷◌}
use Rattle.cf_forms.specs.Plans.{PlannedStage}

-- the least number that a function, if there is one, is below
abbrev pub function_above : Option ℕ → ℕ
function_above None = 0
function_above (Some function) = function + 1

-- the least number that each function of these stages is below
abbrev pub function_bound : List PlannedStage → ℕ
function_bound [] = 0
function_bound (s ∷ stages) = max (function_above s.function) (function_bound stages)
