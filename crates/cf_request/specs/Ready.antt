-- Of each stage the lane, and of each lane the ready stages.
use Rattle.std.specs.Prelude.{◌≡◌, ◌≢◌, ◌⊎◌, ℕ, ◌+◌, ◌<◌, ◌≤◌, ◌==◌, ◌&&◌, Bool, false, List, [], ◌∷◌, ◌++◌, All, cond, length, nat_lt, replicate, slice_index_or, sum_by}
use Rattle.cf_model.specs.declared.stage.Stage.{Stage}
use Rattle.cf_model.specs.Graphs.{stage_in}
use Rattle.cf_model.specs.States.{State, is_ready}

-- of each stage the lane, and how many lanes there are
pub record Lanes : Type 0 where
  pub of : List ℕ
  pub count : ℕ

-- there are 1 to 16 lanes
abbrev pub IsLaneCount : ℕ → Type 0
IsLaneCount count = (1 ≤ count) × (count ≤ 16)

-- lane 0, which is always there, or another
abbrev pub IsLane : ℕ → ℕ → Type 0
IsLane lane count = (lane ≡ 0) ⊎ (lane < count)

abbrev pub lane_of : List ℕ → ℕ → ℕ
lane_of lanes i = slice_index_or lanes i 0

-- there is a lane for each stage
abbrev pub HasLanes : State → List ℕ → Type 0
HasLanes s lanes = length lanes ≡ length s.plan.stages

-- the lanes with that of one stage more, if there is one
abbrev pub and_lane : Bool → ℕ → List ℕ → List ℕ
and_lane is_more lane lanes = cond is_more (lanes ++ lane ∷ []) lanes

-- the lanes once there are so many stages, the last of which may be new
abbrev pub lanes_of : ℕ → ℕ → List ℕ → List ℕ
lanes_of stages lane lanes = and_lane (nat_lt (length lanes) stages) lane lanes

abbrev pub with_lane : ℕ → ℕ → Lanes → Lanes
with_lane stages lane lanes = record lanes { of = lanes_of stages lane lanes.of }

-- ---- sets

-- how many flags are set
abbrev pub count_of : List Bool → ℕ
count_of flags = sum_by (λ b. cond b 1 0) flags

-- of each stage the lane, of each lane whether a stage is in its set, and how many stages there may ever be
pub record ReadySets : Type 0 where
  pub of : List ℕ
  pub sets : List (List Bool)
  pub places : ℕ

-- the lane of each stage is there, and its set has a flag for each stage that there may ever be
pub record AreSets (r : ReadySets) : Type 0 where
  pub lanes : IsLaneCount (length r.sets)
  pub there : All (λ lane. lane < length r.sets) r.of
  pub flags : All (λ (set : List Bool). length set ≡ r.places) r.sets
  pub few : r.places ≤ 4096
  pub most : length r.of ≤ r.places

-- these lanes of stages, of which there are so many, and no stage is ready
abbrev pub none_ready : List ℕ → ℕ → ℕ → ReadySets
none_ready of count places = record { of = of; sets = replicate count (replicate places false); places = places }

-- ---- sets and states

-- whether a stage is in the set of a lane
abbrev pub is_in : List (List Bool) → ℕ → ℕ → Bool
is_in sets lane i = slice_index_or (slice_index_or sets lane []) i false

-- a stage is in the set of a lane exactly if it is ready and of this lane
abbrev pub IsFit : List Stage → ReadySets → ℕ → Type 0
IsFit stages r i = (lane : ℕ) → lane < length r.sets → is_in r.sets lane i ≡ (is_ready (stage_in stages i) && (lane_of r.of i == lane))

-- so is each stage but those that are left, which are in no set but that of their lane
pub record AreFitBut (IsLeft : ℕ → Type 0) (stages : List Stage) (r : ReadySets) : Type 0 where
  pub rest : (i : ℕ) → ¬ IsLeft i → IsFit stages r i
  pub apart : (i lane : ℕ) → lane < length r.sets → lane_of r.of i ≢ lane → is_in r.sets lane i ≡ false

-- so is each stage, there is a lane for each, and there are places for those that may be attached
pub record FitState (s : State) (r : ReadySets) : Type 0 where
  pub all : HasLanes s r.of
  pub room : length s.plan.stages + s.plan.room ≤ r.places
  pub fit : (i : ℕ) → IsFit s.stages r i
