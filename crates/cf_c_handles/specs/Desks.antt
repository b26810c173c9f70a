-- What a caller of a desk is asked.
use Rattle.std.specs.Prelude.{◌≡◌, ℕ, ◌+◌, ◌==◌, None, Result, Ok, Err, length, nat_lt, if◌then◌else◌}
use Rattle.std.specs.Arc.{arc_value}
use Rattle.cf_outcome.specs.declared.now.Now.TheVariants.{Got, Completion, Cancellation}
use Rattle.cf_forms.specs.Plans.{function_at}
use Rattle.cf_model.specs.declared.asks.Ask.{Ask}
use Rattle.cf_model.specs.declared.asks.Ask.TheVariants.{Outcome as AsksOutcome}
use Rattle.cf_model.specs.declared.asks.Told.{Told}
use Rattle.cf_model.specs.declared.asks.Told.TheVariants.{Outcome as ToldOutcome, Now as ToldNow}
use Rattle.cf_model.specs.declared.events.Reply.{Reply}
use Rattle.cf_model.specs.States.{lowest_ready_of}
use Rattle.cf_model.specs.declared.calls.Call.{Call}
use Rattle.cf_model.specs.declared.calls.Call.TheVariants.{Attach}
use Rattle.cf_desk.specs.declared.calls.Joined.{Joined}
use Rattle.cf_desk.specs.declared.calls.Joined.TheVariants.{Value as GotValue, Completion as Fails, Cancellation as Cancels, NotYet}
use Rattle.cf_desk.specs.declared.faults.DeskFault.{DeskFault}
use Rattle.cf_desk.specs.Results.{DeskAnswers, Refuses, RefusesToTell, DeskTells, TellsJoined}
use Rattle.cf_desk.specs.Views.{Follows, IsSamePass, LooksOnce, Pass, state_of}
use Rattle.cf_c_handles.specs.Codes.{desk_code}
use Rattle.cf_c_handles.specs.Graphs.{or_nothing}
use Rattle.cf_c_handles.specs.Replies.{as_reply}
use Rattle.cf_c_handles.specs.Values.{as_now, as_outcome}
use Rattle.cf_c_handles.specs.declared.handle.object.Caller.{Caller as Caller'}
use Rattle.cf_c_handles.specs.declared.code.Code.{Code}
use Rattle.cf_c_handles.specs.declared.code.Code.TheVariants.{NoStage, WrongKind}
use Rattle.cf_c_handles.specs.declared.handle.object.Object.{Object}
use Rattle.cf_c_handles.specs.declared.handle.object.Object.TheVariants.{Caller}
use Rattle.cf_c_handles.specs.declared.values.attaching.AttachParts.{AttachParts}
use Rattle.cf_c_handles.specs.declared.values.CfReply.{CfReply}
use Rattle.cf_c_handles.specs.declared.values.CfNow.{CfNow}
use Rattle.cf_c_handles.specs.declared.values.CfOutcome.{CfOutcome}

-- the same caller of the same desk
pub record IsSameCaller (c d : Caller') : Type 0 where
  pub desk : d.desk ≡ c.desk
  pub pass : IsSamePass c.pass d.pass

-- a caller is asked, and stands behind the handle as it is then
pub record AtCaller {X : Type 0} (Asks : Caller' → Result X Code → Caller' → Type 0) (c : Caller') (r : Result X Code) (new : Object) : Type 0 where
  pub now : Caller'
  pub is : new ≡ Caller now
  pub same : IsSameCaller c now
  pub asked : Asks c r now

abbrev pub ByCaller : {X : Type 0} → (Caller' → Result X Code → Caller' → Type 0) → Object → Result X Code → Object → Type 0
ByCaller Asks (Caller c) r new = AtCaller Asks c r new
ByCaller Asks held r new = (r ≡ Err WrongKind) × (new ≡ held)

-- a changing call is answered, and so is C
pub record IsCalled (c : Caller') (call : Call) (told : CfReply) (d : Caller') : Type 0 where
  pub reply : Reply
  pub answers : DeskAnswers (arc_value c.desk) c.pass call reply d.pass
  pub tells : told ≡ as_reply reply

-- it is refused
pub record IsNotCalled (c : Caller') (call : Call) (code : Code) (d : Caller') : Type 0 where
  pub why : DeskFault
  pub refuses : Refuses (arc_value c.desk) c.pass call d.pass why
  pub tells : code ≡ desk_code why

-- a caller does a call, or there is a reason why there is none
abbrev pub Acts : Result Call Code → Caller' → Result CfReply Code → Caller' → Type 0
Acts (Ok call) c (Ok told) d = IsCalled c call told d
Acts (Ok call) c (Err code) d = IsNotCalled c call code d
Acts (Err fault) c r d = (r ≡ Err fault) × (d ≡ c)

-- the call that attaches these
abbrev pub call_with : Result AttachParts Code → Result Call Code
call_with (Ok parts) = Ok (Attach parts.form parts.of parts.function)
call_with (Err fault) = Err fault

-- a question is answered, after a look
pub record CallerIsTold {X : Type 0} (shows : Told → X) (ask : Ask) (c : Caller') (told : X) (d : Caller') : Type 0 where
  pub answer : Told
  pub tells : DeskTells (arc_value c.desk) c.pass ask answer d.pass
  pub is : told ≡ shows answer

-- it is refused
pub record IsNotTold (ask : Ask) (c : Caller') (code : Code) (d : Caller') : Type 0 where
  pub why : DeskFault
  pub refuses : RefusesToTell (arc_value c.desk) c.pass ask d.pass why
  pub tells : code ≡ desk_code why

abbrev pub Reads : {X : Type 0} → (Told → X) → Ask → Caller' → Result X Code → Caller' → Type 0
Reads shows ask c (Ok told) d = CallerIsTold shows ask c told d
Reads shows ask c (Err code) d = IsNotTold ask c code d

-- what is told of a stage's outcome, and of a stage at present
abbrev pub told_outcome : Told → CfOutcome
told_outcome (ToldOutcome outcome) = as_outcome outcome
told_outcome (ToldNow now) = (as_now now).outcome

abbrev pub told_now : Told → CfNow
told_now (ToldOutcome outcome) = record { kind = 0; outcome = as_outcome outcome }
told_now (ToldNow now) = as_now now

-- what a join is answered
abbrev pub as_joined : Joined → CfNow
as_joined NotYet = record { kind = 0; outcome = as_outcome None }
as_joined (GotValue v) = as_now (Got v)
as_joined (Fails cause) = as_now (Completion cause)
as_joined Cancels = as_now Cancellation

-- a join is answered, after so many looks at most
pub record IsJoined (stage looks : ℕ) (c : Caller') (told : CfNow) (d : Caller') : Type 0 where
  pub answer : Joined
  pub tells : TellsJoined (arc_value c.desk) stage looks c.pass answer d.pass
  pub is : told ≡ as_joined answer

-- at least one look
abbrev pub looks_of : ℕ → ℕ
looks_of looks = if looks == 0 then 1 else looks

abbrev pub Joins : ℕ → ℕ → Caller' → Result CfNow Code → Caller' → Type 0
Joins stage looks c (Ok told) d = IsJoined stage (looks_of looks) c told d
Joins stage looks c (Err code) d = IsNotTold (AsksOutcome stage) c code d

-- the caller looked, and is told of all that it has then seen
pub record FindsReady (c : Caller') (r : Result ℕ Code) (d : Caller') : Type 0 where
  pub seen : Follows c.pass d.pass
  pub looks : LooksOnce (arc_value c.desk) c.pass d.pass
  pub told : r ≡ or_nothing (lowest_ready_of (state_of d.pass.known))

-- a caller is asked what this tells of its pass, without a look
abbrev pub Knows : {X : Type 0} → (Pass → Result X Code) → Caller' → Result X Code → Caller' → Type 0
Knows tells c r d = (r ≡ tells c.pass) × (d ≡ c)

abbrev pub seen_told : Pass → Result ℕ Code
seen_told p = Ok (length p.known.seen)

abbrev pub number_told : Pass → Result ℕ Code
number_told p = Ok p.known.caller

abbrev pub function_known : ℕ → Pass → Result ℕ Code
function_known stage p =
    if nat_lt stage (length (state_of p.known).plan.stages) then or_nothing (function_at (state_of p.known).plan.stages stage) else Err NoStage

-- how many records are left: those that it may hold without those that it holds
abbrev pub IsLeft : Caller' → Result ℕ Code → Caller' → Type 0
IsLeft c (Ok left) d = (left + length c.pass.records ≡ c.pass.calls) × (d ≡ c)
IsLeft c (Err code) d = ⊥
