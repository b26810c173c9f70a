-- Several calls of a request in one, as a row.
use Rattle.std.specs.Prelude.{◌≡◌, ◌⊎◌, ℕ, ◌<◌, ◌≤◌, ◌==◌, Option, Some, None, Result, Ok, Err, List, [], ◌∷◌, drop, take, if◌then◌else◌}
use Rattle.cf_model.specs.declared.events.Reply.{Reply}
use Rattle.cf_request.specs.Machines.{AppliesWord, CancelsAll, GoesOn, IsNoCancel, IsNoDeadline, IsNoFollow, IsNoNext, IsNoPass, IsNoWord, Machine, OnlyFinds, Passes, Refuses, SetsDeadline, SetsFollow}
use Rattle.cf_request.specs.declared.deadlines.Deadline.{Deadline}
use Rattle.cf_request.specs.declared.machine.Next.{Next}
use Rattle.cf_c_handles.specs.Building.{kind_of}
use Rattle.cf_c_handles.specs.LedgerSteps.{late_number, step_code, task_with}
use Rattle.cf_c_handles.specs.Ledgers.{word_code}
use Rattle.cf_c_handles.specs.Replies.{as_reply}
use Rattle.cf_c_handles.specs.RequestCalls.{IsDueAs, IsNoRefusal, lanes_in, machine_code}
use Rattle.cf_c_handles.specs.Tasks.{held_by}
use Rattle.cf_c_handles.specs.Todos.{TellsInto}
use Rattle.cf_c_handles.specs.declared.code.Code.{Code}
use Rattle.cf_c_handles.specs.declared.code.Code.TheVariants.{NoLane, NoSuchNumber, WrongKind}
use Rattle.cf_c_handles.specs.declared.handle.object.Object.{Object}
use Rattle.cf_c_handles.specs.declared.handle.object.Object.TheVariants.{Request}
use Rattle.cf_c_handles.specs.declared.request.row.Call.{Call}
use Rattle.cf_c_handles.specs.declared.request.row.Call.TheVariants.{Apply, Next as TakeNext, Follow, SetDeadline, Pass, Refuse, CancelAll}
use Rattle.cf_c_handles.specs.declared.values.call.CfRequestCall.{CfRequestCall}
use Rattle.cf_c_handles.specs.declared.values.request.CfTodo.{CfTodo}
use Rattle.cf_c_handles.specs.declared.values.request.CfTold.{CfTold}

-- ---- one call

-- the call of a number
abbrev pub call_of : ℕ → Option Call
call_of number =
    if number == 0 then Some Apply
    else (if number == 1 then Some TakeNext
    else (if number == 2 then Some Follow
    else (if number == 3 then Some SetDeadline
    else (if number == 4 then Some Pass
    else (if number == 5 then Some Refuse
    else (if number == 6 then Some CancelAll
    else None))))))

abbrev pub deadline_of : CfRequestCall → Deadline
deadline_of c = record { stage = c.stage; moment = c.moment; kind = kind_of c.kind c.code c.value }

-- a word is done, and C has its reply
pub record HasReply (m : Machine) (had : CfRequestCall) (new : Machine) (has : CfRequestCall) : Type 0 where
  pub reply : Reply
  pub applies : AppliesWord had.word had.lane m reply new
  pub is : has ≡ record had { reply = as_reply reply }

-- what the task held is finished, the next stage of the lane is claimed, and the task has both
pub record HasNext (m : Machine) (had : CfRequestCall) (new : Machine) (has : CfRequestCall) : Type 0 where
  pub next : Next
  pub goes_on : GoesOn had.who had.lane (held_by had.task) m next new
  pub is : has ≡ record had { task = task_with (record had.task { finished = late_number next.finish }) next.taken }

-- something is done that tells C nothing but which stages are settled
abbrev pub JustDoes : (Machine → Machine → Type 0) → Machine → CfRequestCall → Machine → CfRequestCall → Type 0
JustDoes Does m had new has = Does m new × (has ≡ had)

-- it is done, or refused for a fault that is due
abbrev pub DoesOr : {F : Type 0} → (F → Code) → (Machine → CfRequestCall → Machine → CfRequestCall → Type 0) → (F → Type 0) → Machine → CfRequestCall → Result (Unit {0}) Code → Machine → CfRequestCall → Type 0
DoesOr code_of Does IsDue m had (Ok done) new has = Does m had new has
DoesOr code_of Does IsDue m had (Err code) new has = IsDueAs code_of IsDue code × OnlyFinds m new × (has ≡ had)

-- exactly where a lane isn't there, C is told that, and nothing changes
abbrev pub InLane : Machine → CfRequestCall → Result (Unit {0}) Code → Machine → CfRequestCall → Type 0 → Type 0
InLane m had r new has Goes = ((lanes_in m ≤ had.lane) × (r ≡ Err NoLane) × (new ≡ m) × (has ≡ had)) ⊎ ((had.lane < lanes_in m) × Goes)

-- the call that a row asks for, each as it is done alone
abbrev pub DoesAs : Option Call → Machine → CfRequestCall → Result (Unit {0}) Code → Machine → CfRequestCall → Type 0
DoesAs (Some Apply) m had r new has = InLane m had r new has (DoesOr word_code HasReply (IsNoWord had.word m) m had r new has)
DoesAs (Some TakeNext) m had r new has = InLane m had r new has (DoesOr step_code HasNext (IsNoNext had.who had.lane (held_by had.task) m) m had r new has)
DoesAs (Some Follow) m had r new has = DoesOr machine_code (JustDoes (SetsFollow had.relay had.stage)) (IsNoFollow had.relay had.stage m) m had r new has
DoesAs (Some SetDeadline) m had r new has = DoesOr machine_code (JustDoes (SetsDeadline (deadline_of had))) (IsNoDeadline (deadline_of had) m) m had r new has
DoesAs (Some Pass) m had r new has = DoesOr machine_code (JustDoes (Passes had.moment)) (IsNoPass had.moment m) m had r new has
DoesAs (Some Refuse) m had r new has = InLane m had r new has (DoesOr machine_code (JustDoes (Refuses had.lane had.code)) (IsNoRefusal m) m had r new has)
DoesAs (Some CancelAll) m had r new has = DoesOr step_code (JustDoes (CancelsAll had.who)) (IsNoCancel had.who m) m had r new has
DoesAs None m had r new has = (r ≡ Err NoSuchNumber) × (new ≡ m) × (has ≡ had)

abbrev pub DoesCall : Machine → CfRequestCall → Result (Unit {0}) Code → Machine → CfRequestCall → Type 0
DoesCall m had r new has = DoesAs (call_of had.call) m had r new has

-- ---- a row

-- these calls are done, one after another
abbrev pub AreDone : Machine → List CfRequestCall → Machine → List CfRequestCall → Type 0
AreDone m [] new [] = new ≡ m
AreDone m (had ∷ hads) new (has ∷ hases) = (between : Machine) × DoesCall m had (Ok tt) between has × AreDone between hads new hases
AreDone m hads new hases = ⊥

-- none is left, or the next one is refused
abbrev pub StopsAt : List CfRequestCall → Machine → Result (Unit {0}) Code → Machine → Type 0
StopsAt [] m r new = (r ≡ Ok tt) × (new ≡ m)
StopsAt (call ∷ calls) m (Ok done) new = ⊥
StopsAt (call ∷ calls) m (Err code) new = DoesCall m call (Err code) new call

-- the first so many are done, none is left or the next one is refused, and C has the rest as it was
pub record DoesCalls (m : Machine) (had : List CfRequestCall) (r : Result (Unit {0}) Code) (new : Machine) (has : List CfRequestCall) (count : ℕ) : Type 0 where
  pub between : Machine
  pub front : AreDone m (take count had) between (take count has)
  pub stops : StopsAt (drop count had) between r new
  pub rest : drop count has ≡ drop count had

-- and then it is told what is settled and what is next
pub record HasDoneCalls (m : Machine) (r : Result (Unit {0}) Code) (new : Object) (had has : List CfRequestCall × ℕ × List CfTold × CfTodo) : Type 0 where
  pub between : Machine
  pub now : Machine
  pub does : DoesCalls m had.0 r between has.0 has.1
  pub tells : TellsInto between (had.2, had.3) (has.2, has.3) now
  pub is : new ≡ Request now

abbrev pub DoesCallsIn : Object → List CfRequestCall × ℕ × List CfTold × CfTodo → Result (Unit {0}) Code → Object → List CfRequestCall × ℕ × List CfTold × CfTodo → Type 0
DoesCallsIn (Request m) had r new has = HasDoneCalls m r new had has
DoesCallsIn held had r new has = (r ≡ Err WrongKind) × (new ≡ held) × (has ≡ had)
