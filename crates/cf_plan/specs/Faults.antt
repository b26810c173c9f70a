-- Why a stage or a limit can't be added to a plan.
use Rattle.std.specs.Prelude.{ℕ, ◌+◌, Bool, true, false, not, ◌||◌, Option, Some, None, is_some, is_none, length, nat_lt, nat_le}
use Rattle.std.specs.List.{list_all}
use Rattle.cf_plan.specs.declared.faults.PlanFault.{PlanFault}
use Rattle.cf_forms.specs.Plans.{Planned, PlannedStage, calls_function, fits_count}
use Rattle.cf_plan.specs.declared.faults.PlanFault.TheVariants.{TooManyStages, SourceNotLower, WrongSourceCount, FunctionMissing, FunctionUnwanted, TooManyEdges, NoSuchStage, TooManyLimits}

-- the fault where the test fails, and else what comes next
abbrev pub unless : Bool → PlanFault → Option PlanFault → Option PlanFault
unless true fault next = next
unless false fault next = Some fault

-- a function that is missing or not wanted, or else too many edges
abbrev pub function_fault : ℕ → PlannedStage → Option PlanFault
function_fault edges new =
    unless (is_some new.function || not (calls_function new.form)) FunctionMissing
    (unless (is_none new.function || calls_function new.form) FunctionUnwanted
    (unless (nat_le (edges + length new.sources) 16384) TooManyEdges None))

-- the first reason why such a stage can't be added after so many stages with so many edges, if there is one
abbrev pub stage_fault : ℕ → ℕ → PlannedStage → Option PlanFault
stage_fault stages edges new =
    unless (nat_lt stages 4096) TooManyStages
    (unless (fits_count new.form (length new.sources)) WrongSourceCount
    (unless (list_all (λ j. nat_lt j stages) new.sources) SourceNotLower
    (function_fault edges new)))

-- the first reason why a limit of this stage can't be added, if there is one
abbrev pub limit_fault : Planned → ℕ → Option PlanFault
limit_fault plan stage =
    unless (nat_lt stage (length plan.stages)) NoSuchStage
    (unless (nat_lt (length plan.limits) 4096) TooManyLimits None)
