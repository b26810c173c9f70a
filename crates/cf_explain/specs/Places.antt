-- In which part of a script a place is.
use Rattle.std.specs.Prelude.{◌≡◌, ℕ, [], ◌∷◌, None, Option, IfSome, nat_lt, if◌then◌else◌}
use Rattle.cf_plan.specs.declared.faults.PlanFault.{PlanFault}
use Rattle.cf_plan.specs.declared.faults.PlanFault.TheVariants.{NoSuchStage, TooManyLimits}
use Rattle.cf_script_reading.specs.declared.fault.Part.TheVariants.{Top, Stage, Limit}
use Rattle.cf_script_reading.specs.declared.fault.ReadingFault.{ReadingFault}
use Rattle.cf_script_reading.specs.declared.fault.ReadingFault.TheVariants as faults
use Rattle.cf_explain.specs.declared.place.Area.{Area}
use Rattle.cf_explain.specs.declared.place.Area.TheVariants as areas
use Rattle.cf_explain.specs.declared.place.Place.{Place}
use Rattle.cf_explain.specs.declared.refusing.Finding.{Finding}

-- the part that the builder of plans refuses at position k: a limit, or a stage
abbrev pub plan_area : PlanFault → ℕ → Area
plan_area NoSuchStage k = areas.Part (Limit k)
plan_area TooManyLimits k = areas.Part (Limit k)
plan_area refusal k = areas.Part (Stage k)

-- the part that a fault names
abbrev pub area_of : ReadingFault → Area
area_of (faults.Shape part) = areas.Part part
area_of (faults.Plan refusal k) = plan_area refusal k
area_of (faults.Function k) = areas.Part (Stage k)
area_of (faults.Step k) = areas.Step k
area_of fault = areas.Part Top

-- a part itself, and not something in it
abbrev pub place_of : Area → Place
place_of area = record { area = area; path = None ∷ None ∷ None ∷ None ∷ [] }

-- a position, or the greatest that there is a number for
abbrev pub position_of : ℕ → ℕ
position_of k = if nat_lt k 4294967296 then k else 4294967295

-- the limit at a position
abbrev pub limit_place : ℕ → Place
limit_place k = place_of (areas.Part (Limit (position_of k)))

-- what was found, if something was, is in this part
abbrev pub IsIn : Area → Option Finding → Type 0
IsIn area found = IfSome found (λ w. w.place.area ≡ area)
