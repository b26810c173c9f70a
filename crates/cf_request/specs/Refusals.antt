-- Stages that end at once: those of a lane that nobody runs any more, or all.
use Rattle.std.specs.Prelude.{◌≡◌, ℕ, zero, suc, ◌+◌, ◌<◌, true, false, List, cond, length}
use Rattle.cf_outcome.specs.declared.outcome.Cause.TheVariants.{Thrown, Cancelled}
use Rattle.cf_outcome.specs.declared.outcome.Outcome.TheVariants.{Fault}
use Rattle.cf_model.specs.declared.stage.Stage.{Stage}
use Rattle.cf_model.specs.States.{State}
use Rattle.cf_request.specs.Lanes.{IsLowestIn, NoneReadyIn}
use Rattle.cf_request.specs.Relays.{NoneBehind}
use Rattle.cf_request.specs.Settling.{IsOpen}
use Rattle.cf_request.specs.Telling.{is_settled_in}
use Rattle.cf_request.specs.declared.refusals.Ending.{Ending}
use Rattle.cf_request.specs.declared.refusals.Ending.TheVariants.{OfLane, OfAll}
use Rattle.cf_request.specs.declared.joins.Join.{Join}
use Rattle.cf_request.specs.declared.settling.Due.{Due}

-- the lowest ready stage of the lane, which fails with the code
pub record IsRefused (lanes : List ℕ) (lane code : ℕ) (s : State) (d : Due) : Type 0 where
  pub lowest : IsLowestIn s lanes lane d.stage
  pub outcome : d.outcome ≡ Fault (Thrown code) false

-- no relay is behind, and no stage of the lane is ready
abbrev pub NoneToRefuse : List Join → List ℕ → ℕ → State → Type 0
NoneToRefuse follows lanes lane s = NoneBehind follows s.stages × NoneReadyIn s lanes lane (length s.plan.stages)

-- how many stages below a number are open
abbrev pub open_below : List Stage → ℕ → ℕ
open_below stages zero = 0
open_below stages (suc k) = cond (is_settled_in stages k) 0 1 + open_below stages k

-- the lowest open stage, which is cancelled
pub record IsCancelled (s : State) (d : Due) : Type 0 where
  pub waits : IsOpen s d.stage
  pub first : (k : ℕ) → k < d.stage → is_settled_in s.stages k ≡ true
  pub outcome : d.outcome ≡ Fault Cancelled false

-- no stage is open
abbrev pub AllSettled : State → Type 0
AllSettled s = (k : ℕ) → k < length s.plan.stages → is_settled_in s.stages k ≡ true

-- ---- either

-- the lane, if one is named, is one of so many
abbrev pub HasLane : ℕ → Ending → Type 0
HasLane count (OfLane lane code) = lane < count
HasLane count OfAll = Unit {0}

abbrev pub IsEnded : List ℕ → Ending → State → Due → Type 0
IsEnded lanes (OfLane lane code) s d = IsRefused lanes lane code s d
IsEnded lanes OfAll s d = IsCancelled s d

abbrev pub NoneToEnd : List ℕ → Ending → State → Type 0
NoneToEnd lanes (OfLane lane code) s = NoneReadyIn s lanes lane (length s.plan.stages)
NoneToEnd lanes OfAll s = AllSettled s
