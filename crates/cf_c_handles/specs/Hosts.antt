-- What users call of a host behind a handle, and what it has to do next.
use Rattle.std.specs.Prelude.{◌≡◌, ◌⊎◌, ℕ, ◌<◌, ◌≤◌, true, min, Option, Result, Ok, Err, List}
use Rattle.std.specs.Global.{Box}
use Rattle.cf_due.specs.Acts.{IsFitting}
use Rattle.cf_due.specs.declared.acts.Act.{Act}
use Rattle.cf_host.specs.Asking.{Asking, Ending, Growing, IsNoAsking, IsNoEnding, IsNoGrowing, IsNoWanting, Wanting}
use Rattle.cf_host.specs.Hosts.{FollowsIn, Host as Host', Keeps, OnRequest, OnRequestFor, Orders, new_host}
use Rattle.cf_host.specs.Pulses.{later_by}
use Rattle.cf_host.specs.Tickets.{IsReady}
use Rattle.cf_host.specs.declared.order.NoAnswer.{NoAnswer}
use Rattle.cf_host.specs.declared.order.NoAnswer.TheVariants as answers
use Rattle.cf_host.specs.declared.order.NoCall.{NoCall}
use Rattle.cf_host.specs.declared.order.NoCall.TheVariants as calls
use Rattle.cf_host.specs.declared.order.Order.{Order}
use Rattle.cf_host.specs.declared.request.Request.{Request}
use Rattle.cf_c_handles.specs.Building.{Fills}
use Rattle.cf_c_handles.specs.HostOrders.{as_order}
use Rattle.cf_c_handles.specs.HostValues.{flag}
use Rattle.cf_c_handles.specs.RequestCalls.{IsDueAs}
use Rattle.cf_c_handles.specs.declared.code.Code.{Code}
use Rattle.cf_c_handles.specs.declared.code.Code.TheVariants.{BadAttach, NoMemory, NoStage, NoTicket, NoTokens, NotOpen, Room, Unfit, WrongKind}
use Rattle.cf_c_handles.specs.declared.handle.CfHandle.{CfHandle}
use Rattle.cf_c_handles.specs.declared.handle.object.Object.{Object}
use Rattle.cf_c_handles.specs.declared.handle.object.Object.TheVariants.{Host}
use Rattle.cf_c_handles.specs.declared.values.host.CfHostOpening.{CfHostOpening}
use Rattle.cf_c_handles.specs.declared.values.host.order.CfHostOrder.{CfHostOrder}

-- ---- codes

-- the code of the reason for which an answer is refused
abbrev pub answer_code : NoAnswer → Code
answer_code answers.NoTicket = NoTicket
answer_code answers.Unfit = Unfit
answer_code answers.NoMemory = NoMemory

-- the code of the reason for which a user's call is refused
abbrev pub call_code : NoCall → Code
call_code calls.NotOpen = NotOpen
call_code calls.Unfit = NoStage
call_code calls.NoMemory = NoMemory

-- and that of the reason for which no room is made
abbrev pub room_code : NoCall → Code
room_code calls.NotOpen = NotOpen
room_code calls.Unfit = Room
room_code calls.NoMemory = NoMemory

-- ---- a host is opened

-- it works on no request yet
pub record IsNewHost (o : CfHostOpening) (made : Object) : Type 0 where
  pub now : Box Host'
  pub is : made ≡ Host now
  pub fresh : now.value ≡ new_host o.session o.workers o.lease (flag o.takes_all)

abbrev pub HostOf : CfHostOpening → Result Object Code → Type 0
HostOf o (Ok made) = (o.session < 549755813888) × IsNewHost o made
HostOf o (Err NoTokens) = 549755813888 ≤ o.session
HostOf o (Err code) = (code ≡ NoMemory) × (o.session < 549755813888)

-- and put behind a handle, if that is empty
pub record OpensHost (o : CfHostOpening) (old : CfHandle) (code : ℕ) (new : CfHandle) : Type 0 where
  pub made : Result Object Code
  pub makes : HostOf o made
  pub fills : Fills made old.inner.held code new.inner.held

-- ---- it is asked

-- what stands behind a handle is a host, is asked this, and stays there
pub record AsksHost {X : Type 0} (Asks : Host' → Result X Code → Host' → Type 0) (old : Box Host') (r : Result X Code) (new : Object) : Type 0 where
  pub now : Box Host'
  pub is : new ≡ Host now
  pub asked : Asks old.value r now.value

abbrev pub OfHost : {X : Type 0} → (Host' → Result X Code → Host' → Type 0) → Object → Result X Code → Object → Type 0
OfHost Asks (Host h) r new = AsksHost Asks h r new
OfHost Asks held r new = (r ≡ Err WrongKind) × (new ≡ held)

-- the reason for which a call on a request is refused has this code
abbrev pub IsCallCode : (List Request → NoCall → Type 0) → Host' → Code → Type 0
IsCallCode IsNoCall h code = IsDueAs call_code (IsNoCall h.requests) code

-- a request is worked on
abbrev pub Follows : ℕ → Host' → Result (Unit {0}) Code → Host' → Type 0
Follows request h (Ok done) new = FollowsIn request h new
Follows request h (Err code) new = (code ≡ NoMemory) × (new ≡ h)

-- an act is asked for that fits, and C has its ticket
abbrev pub ActsSo : ℕ → ℕ → Act → Host' → Result ℕ Code → Host' → Type 0
ActsSo now request act h (Ok ticket) new =
    IsFitting act × OnRequestFor (λ n. Asking n act (later_by 60000 now)) request now ticket h new
ActsSo now request act h (Err code) new =
    ((code ≡ BadAttach) × (¬ IsFitting act) × (new ≡ h)) ⊎ (IsFitting act × IsCallCode (IsNoAsking act request) h code × Keeps h new)

abbrev pub Acts : ℕ → ℕ → Result Act Code → Host' → Result ℕ Code → Host' → Type 0
Acts now request (Ok act) h r new = ActsSo now request act h r new
Acts now request (Err why) h r new = (r ≡ Err why) × (new ≡ h)

-- a request is to be closed, and C has the ticket for that
abbrev pub EndsRequest : ℕ → ℕ → Host' → Result ℕ Code → Host' → Type 0
EndsRequest now request h (Ok ticket) new = OnRequestFor (λ n. Ending n (later_by 60000 now)) request now ticket h new
EndsRequest now request h (Err code) new = IsCallCode (IsNoEnding request) h code × Keeps h new

-- somebody waits for a stage, which is shown from a moment on, or nobody does any more
abbrev pub Wants : Option ℕ → ℕ → ℕ → Host' → Result (Unit {0}) Code → Host' → Type 0
Wants from request stage h (Ok done) new = OnRequest (Wanting stage from) request h new
Wants from request stage h (Err code) new = IsCallCode (IsNoWanting stage request) h code × (new ≡ h)

-- there is room for so many stages more
abbrev pub GrowsIn : ℕ → ℕ → Host' → Result (Unit {0}) Code → Host' → Type 0
GrowsIn request more h (Ok done) new = OnRequest (Growing more) request h new
GrowsIn request more h (Err code) new = IsDueAs room_code (IsNoGrowing more request h.requests) code × (new ≡ h)

-- what is new is asked for by now
abbrev pub IsStirred : ℕ → Host' → Result (Unit {0}) Code → Host' → Type 0
IsStirred now h r new = (r ≡ Ok tt) × (new ≡ record h { news = record h.news { due = min h.news.due now } })

-- no further function is called
abbrev pub Stops : Host' → Result (Unit {0}) Code → Host' → Type 0
Stops h r new = (r ≡ Ok tt) × (new ≡ record h { is_stopping = true })

-- ---- its turn

-- C has the order
pub record HasOrder (now : ℕ) (h : Host') (told : CfHostOrder) (new : Host') : Type 0 where
  pub order : Order
  pub orders : Orders h now order new
  pub is : told ≡ as_order order

abbrev pub TurnsTo : ℕ → Host' → Result CfHostOrder Code → Host' → Type 0
TurnsTo now h (Ok told) new = HasOrder now h told new
TurnsTo now h (Err code) new = (code ≡ NoMemory) × (¬ IsReady h.tickets) × (new ≡ h)
