-- A request behind a handle: how it is opened, and a stage as it is told.
use Rattle.std.specs.Prelude.{◌≡◌, ℕ, ◌+◌, ◌<◌, ◌≤◌, true, false, Option, Some, None, Result, Ok, Err, List, [], All, length}
use Rattle.cf_outcome.specs.declared.outcome.Outcome.{Outcome}
use Rattle.cf_outcome.specs.declared.outcome.Value.TheVariants.{Nil}
use Rattle.cf_forms.specs.declared.limits.LimitKind.{LimitKind}
use Rattle.cf_forms.specs.declared.limits.LimitKind.TheVariants.{Timeout, Give}
use Rattle.cf_forms.specs.Plans.{Planned, has_place, with_room}
use Rattle.cf_model.specs.States.{State, outcome_at, start}
use Rattle.cf_request.specs.Machines.{Machine}
use Rattle.cf_request.specs.Ready.{IsLaneCount}
use Rattle.cf_request.specs.Scopes.{stopped_in}
use Rattle.cf_request.specs.Telling.{AreFresh}
use Rattle.cf_request.specs.declared.deadlines.Deadline.{Deadline}
use Rattle.cf_c_handles.specs.Values.{as_outcome, as_value}
use Rattle.cf_c_handles.specs.declared.code.Code.{Code}
use Rattle.cf_c_handles.specs.declared.code.Code.TheVariants.{Lanes, NoLane, NoMemory, NoWord, Room, WrongKind}
use Rattle.cf_c_handles.specs.declared.handle.object.Object.{Object}
use Rattle.cf_c_handles.specs.declared.handle.object.Object.TheVariants.{Plan, Request}
use Rattle.cf_c_handles.specs.declared.values.CfValue.{CfValue}
use Rattle.cf_c_handles.specs.declared.values.request.CfDeadline.{CfDeadline}
use Rattle.cf_c_handles.specs.declared.values.request.CfRequestSizes.{CfRequestSizes}
use Rattle.cf_c_handles.specs.declared.values.request.CfTold.{CfTold}

-- ---- what C has

-- what becomes of a stage at its moment: it times out with a code, or it gets a value
abbrev pub limit_number : LimitKind → ℕ
limit_number (Timeout code) = 0
limit_number (Give v) = 1

abbrev pub limit_code : LimitKind → ℕ
limit_code (Timeout code) = code
limit_code (Give v) = 0

abbrev pub limit_value : LimitKind → CfValue
limit_value (Timeout code) = as_value Nil
limit_value (Give v) = as_value v

abbrev pub as_deadline : Deadline → CfDeadline
as_deadline d = record { stage = d.stage; moment = d.moment; kind = limit_number d.kind; code = limit_code d.kind; value = limit_value d.kind }

-- 1 and the caller whose function may be stopped, or 0
abbrev pub stop_of : Option ℕ → ℕ
stop_of None = 0
stop_of (Some who) = 1 + who

abbrev pub told_as : ℕ → Option ℕ → Option Outcome → CfTold
told_as i claimant outcome = record { stage = i; stop = stop_of claimant; outcome = as_outcome outcome }

-- a stage as it is told, with the caller whose claim is open for nothing, and its outcome
abbrev pub told_in : State → ℕ → CfTold
told_in s i = told_as i (stopped_in s i) (outcome_at s i)

-- ---- requests are opened

-- there are 1 to 16 lanes, and a lane is named for each stage
pub record AreLanes (plan : Planned) (count : ℕ) (lanes : List ℕ) : Type 0 where
  pub some : IsLaneCount count
  pub each : length lanes ≡ length plan.stages

-- each of these is one of so many lanes
abbrev pub AreBelow : ℕ → List ℕ → Type 0
AreBelow count lanes = All (λ lane. lane < count) lanes

-- the request of a plan with so much room: nothing is done, and told are the stages that are settled from the start
pub record IsNewRequest (p : Planned) (sizes : CfRequestSizes) (lanes : List ℕ) (made : Object) : Type 0 where
  pub now : Machine
  pub is : made ≡ Request now
  pub ledger : now.teller.ledger ≡ record { plan = with_room p sizes.room; events = []; free = 0 }
  pub taken : now.teller.taken ≡ []
  pub told : AreFresh [] (start (with_room p sizes.room)).stages now.teller.told
  pub lanes_are : now.teller.lanes ≡ record { of = lanes; count = sizes.lanes }
  pub follows : now.follows ≡ []
  pub deadlines : now.deadlines ≡ []
  pub moment : now.moment ≡ 0
  pub own : now.own ≡ sizes.own

-- nothing but memory stands against it
pub record MayOpen (p : Planned) (sizes : CfRequestSizes) (lanes : List ℕ) : Type 0 where
  pub place : has_place p.stages sizes.room ≡ true
  pub are_lanes : AreLanes p sizes.lanes lanes
  pub below : AreBelow sizes.lanes lanes
  pub caller : sizes.own ≤ 63

abbrev pub RequestOf : CfRequestSizes → List ℕ → Object → Result Object Code → Type 0
RequestOf sizes lanes (Plan p) (Ok made) = MayOpen p sizes lanes × IsNewRequest p sizes lanes made
RequestOf sizes lanes (Plan p) (Err Room) = has_place p.stages sizes.room ≡ false
RequestOf sizes lanes (Plan p) (Err Lanes) = (has_place p.stages sizes.room ≡ true) × ¬ AreLanes p sizes.lanes lanes
RequestOf sizes lanes (Plan p) (Err NoLane) = (has_place p.stages sizes.room ≡ true) × AreLanes p sizes.lanes lanes × ¬ AreBelow sizes.lanes lanes
RequestOf sizes lanes (Plan p) (Err NoWord) = (has_place p.stages sizes.room ≡ true) × AreLanes p sizes.lanes lanes × AreBelow sizes.lanes lanes × (63 < sizes.own)
RequestOf sizes lanes (Plan p) (Err fault) = (fault ≡ NoMemory) × MayOpen p sizes lanes
RequestOf sizes lanes held r = r ≡ Err WrongKind
