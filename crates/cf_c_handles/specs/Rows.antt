-- What a session's view of a row behind a handle is asked.
use Rattle.std.specs.Prelude.{◌≡◌, ◌≢◌, ◌⊎◌, ℕ, ◌+◌, ◌*◌, ◌<◌, ◌≤◌, Bool, true, false, Option, Result, Ok, Err, List, [], All, Contains, length, None, Some}
use Rattle.cf_forms.specs.Plans.{Planned, has_place, with_room}
use Rattle.cf_model.specs.declared.events.Reply.{Reply}
use Rattle.cf_model.specs.States.{claim_at}
use Rattle.cf_ledger.specs.declared.step.Held.{Held}
use Rattle.cf_row.specs.declared.entry.Entry.{Entry}
use Rattle.cf_row.specs.declared.faults.PutFault.{PutFault}
use Rattle.cf_row.specs.declared.faults.PutFault.TheVariants as faults
use Rattle.cf_row.specs.declared.grants.Claim.{Claim}
use Rattle.cf_row.specs.Grants.{IsGrantedTo, IsHeldBy, NoneHeldBy, NoneOpen}
use Rattle.cf_row.specs.Abandoning.{Abandons}
use Rattle.cf_row.specs.Next.{CanClaim, Finishes, HasNoClaim, NoneToClaim}
use Rattle.cf_row.specs.Numbers.{FollowsRule}
use Rattle.cf_row.specs.Puts.{IsNoPut, OnlyFinds, Plans, Row as Row', TellsOf, pairs_of}
use Rattle.cf_row.specs.Rows.{IsNoEntry, Replica, Takes, ledger_of, session_of, stages_of, state_of, with_more}
use Rattle.cf_c_handles.specs.Ledgers.{HaveNews, word_code}
use Rattle.cf_c_handles.specs.Replies.{as_reply}
use Rattle.cf_c_handles.specs.RequestCalls.{IsDueAs}
use Rattle.cf_c_handles.specs.Tasks.{held_by}
use Rattle.cf_c_handles.specs.Values.{bit}
use Rattle.cf_c_handles.specs.declared.code.Code.{Code}
use Rattle.cf_c_handles.specs.declared.code.Code.TheVariants.{NoMemory, NoTokens, NoWord, Nothing, Room, UnderWay, WrongKind}
use Rattle.cf_c_handles.specs.declared.handle.object.Object.{Object}
use Rattle.cf_c_handles.specs.declared.handle.object.Object.TheVariants.{Plan, Row}
use Rattle.cf_c_handles.specs.declared.values.CfReply.{CfReply}
use Rattle.cf_c_handles.specs.declared.values.row.CfEntry.{CfEntry}
use Rattle.cf_c_handles.specs.declared.values.row.CfRowClaim.{CfRowClaim}
use Rattle.cf_c_handles.specs.declared.values.row.CfRowOpening.{CfRowOpening}
use Rattle.cf_c_handles.specs.declared.values.stage.CfNews.{CfNews}
use Rattle.cf_c_handles.specs.declared.values.task.CfTask.{CfTask}

abbrev pub entry_of : CfEntry → Entry
entry_of x = record { word = x.word; token = x.token }

-- ---- views are opened

-- there is such a session, and it has such a token or has none left
pub record IsSession (o : CfRowOpening) : Type 0 where
  pub session : o.session < 549755813888
  pub first : o.first ≤ 8388608

-- the view of a row of which nothing was read
pub record IsNewRow (p : Planned) (o : CfRowOpening) (made : Object) : Type 0 where
  pub now : Row'
  pub is : made ≡ Row now
  pub replica : now.replica ≡ record { plan = with_room p o.room; session = o.session; seen = []; records = []; free = 0 }
  pub put : now.put ≡ []
  pub next : now.next ≡ o.session * 8388608 + o.first

abbrev pub RowOf : CfRowOpening → Object → Result Object Code → Type 0
RowOf o (Plan p) (Ok made) = (has_place p.stages o.room ≡ true) × IsSession o × IsNewRow p o made
RowOf o (Plan p) (Err Room) = has_place p.stages o.room ≡ false
RowOf o (Plan p) (Err NoTokens) = (has_place p.stages o.room ≡ true) × ¬ IsSession o
RowOf o (Plan p) (Err fault) = (fault ≡ NoMemory) × (has_place p.stages o.room ≡ true) × IsSession o
RowOf o held r = r ≡ Err WrongKind

-- ---- puts

-- exactly where a put is under way C is told that, and all stays the same
abbrev pub IfNoPut : {X : Type 0} → Row' → Result X Code → Type 0 → Type 0 → Type 0
IfNoPut v r Same Goes = ((0 < length v.put) × (r ≡ Err UnderWay) × Same) ⊎ ((v.put ≡ []) × Goes)

abbrev pub put_code : PutFault → Code
put_code faults.NoMemory = NoMemory
put_code faults.NoTokens = NoTokens
put_code faults.NoWord = NoWord

-- a put of these words is planned, and C has the token of the first
pub record HasPlanned (words : List ℕ) (old : Row') (token : ℕ) (new : Object) : Type 0 where
  pub now : Row'
  pub plans : Plans old words now
  pub is : new ≡ Row now
  pub first : token ≡ old.next

-- or none is, for a fault that is due
abbrev pub PlansOrNot : List ℕ → Row' → Result ℕ Code → Object → Type 0
PlansOrNot words v (Ok token) new = HasPlanned words v token new
PlansOrNot words v (Err code) new = IsDueAs put_code (IsNoPut v.replica v.next words) code × (new ≡ Row v)

-- exactly where there are no words C is told that there is nothing
abbrev pub PlansSome : List ℕ → Row' → Result ℕ Code → Object → Type 0
PlansSome words v r new = ((length words ≡ 0) × (r ≡ Err Nothing) × (new ≡ Row v)) ⊎ ((0 < length words) × PlansOrNot words v r new)

abbrev pub PlansIn : List ℕ → Object → Result ℕ Code → Object → Type 0
PlansIn words (Row v) r new = IfNoPut v r (new ≡ Row v) (PlansSome words v r new)
PlansIn words held r new = (r ≡ Err WrongKind) × (new ≡ held)

-- C is told whether the entry at the put's place is the put's own; the put is over then
pub record HasMet (first : Entry) (old : Row') (landed : ℕ) (new : Object) : Type 0 where
  pub some : 0 < length old.put
  pub told : Bool
  pub tells : TellsOf old.replica old.put first told
  pub number : landed ≡ bit told
  pub is : new ≡ Row (record old { put = [] })

abbrev pub Meets : Entry → Row' → Result ℕ Code → Object → Type 0
Meets first v (Ok landed) new = HasMet first v landed new
Meets first v (Err code) new = (code ≡ Nothing) × (v.put ≡ []) × (new ≡ Row v)

abbrev pub MeetsIn : Entry → Object → Result ℕ Code → Object → Type 0
MeetsIn first (Row v) r new = Meets first v r new
MeetsIn first held r new = (r ≡ Err WrongKind) × (new ≡ held)

-- the put is forgotten, and nothing else
abbrev pub GivesUpIn : Object → Result (Unit {0}) Code → Object → Type 0
GivesUpIn (Row v) r new = (r ≡ Ok tt) × (new ≡ Row (record v { put = [] }))
GivesUpIn held r new = (r ≡ Err WrongKind) × (new ≡ held)

-- ---- what stands

-- an entry is replayed, and C has its reply, the stages that it changed, each as it is then, and how many these are
pub record HasSeen (x : Entry) (old : Row') (new : Object) (had has : CfReply × List CfNews × ℕ) : Type 0 where
  pub reply : Reply
  pub now : Row'
  pub takes : Takes old.replica x reply now.replica
  pub put : now.put ≡ []
  pub next : now.next ≡ old.next
  pub is : new ≡ Row now
  pub replied : has.0 ≡ as_reply reply
  pub news : HaveNews (ledger_of now.replica) (length old.replica.seen) had.1 has.1 has.2

-- nothing is done but that memory may be found
pub record RestsButFinds (old : Row') (new : Object) : Type 0 where
  pub now : Row'
  pub is : new ≡ Row now
  pub finds : OnlyFinds old now

-- or it isn't, for a fault that is due
abbrev pub SeesOrNot : Entry → Row' → CfReply × List CfNews × ℕ → Result (Unit {0}) Code → Object → CfReply × List CfNews × ℕ → Type 0
SeesOrNot x v had (Ok done) new has = HasSeen x v new had has
SeesOrNot x v had (Err code) new has = IsDueAs word_code (IsNoEntry v.replica x.word) code × RestsButFinds v new × (has ≡ had)

abbrev pub SeesIn : Entry → Object → CfReply × List CfNews × ℕ → Result (Unit {0}) Code → Object → CfReply × List CfNews × ℕ → Type 0
SeesIn x (Row v) had r new has = IfNoPut v r ((new ≡ Row v) × (has ≡ had)) (SeesOrNot x v had r new has)
SeesIn x held had r new has = (r ≡ Err WrongKind) × (new ≡ held) × (has ≡ had)

-- there is more room, or there would be too many stages or edges, or no memory is left
abbrev pub RoomsOrNot : ℕ → Row' → Result (Unit {0}) Code → Object → Type 0
RoomsOrNot more v (Ok done) new =
    (has_place v.replica.plan.stages (v.replica.plan.room + more) ≡ true) × (new ≡ Row (record v { replica = with_more v.replica more }))
RoomsOrNot more v (Err Room) new = (has_place v.replica.plan.stages (v.replica.plan.room + more) ≡ false) × (new ≡ Row v)
RoomsOrNot more v (Err code) new =
    (code ≡ NoMemory) × (has_place v.replica.plan.stages (v.replica.plan.room + more) ≡ true) × (new ≡ Row v)

abbrev pub RoomsIn : ℕ → Object → Result (Unit {0}) Code → Object → Type 0
RoomsIn more (Row v) r new = IfNoPut v r (new ≡ Row v) (RoomsOrNot more v r new)
RoomsIn more held r new = (r ≡ Err WrongKind) × (new ≡ held)

-- ---- questions

-- what a view of a row has seen is asked this, and the view stays
abbrev pub OfRow : {X : Type 0} → (Replica → Result X Code → Type 0) → Object → Result X Code → Object → Type 0
OfRow Tells (Row v) r new = Tells v.replica r × (new ≡ Row v)
OfRow Tells held r new = (r ≡ Err WrongKind) × (new ≡ held)

-- the session's own number, which it has or takes with its next put: there is always one
abbrev pub TellsNumber : Replica → Result ℕ Code → Type 0
TellsNumber seen (Ok who) = FollowsRule (pairs_of seen.seen) (seen.session, who)
TellsNumber seen (Err code) = ⊥

-- the number of a session's first entry; or it has put none
abbrev pub TellsNumberOf : ℕ → Replica → Result ℕ Code → Type 0
TellsNumberOf session seen (Ok who) = Contains (pairs_of seen.seen) (session, who)
TellsNumberOf session seen (Err code) = (code ≡ Nothing) × All (λ (x : Entry). session_of x.token ≢ session) seen.seen

-- the lowest stage from a number on whose claim is open, and the session to which it was granted
abbrev pub as_claim : Claim → CfRowClaim
as_claim c = record { session = c.session; stage = c.stage }

pub record IsFirstOpen (from : ℕ) (seen : Replica) (c : CfRowClaim) : Type 0 where
  pub whose : IsGrantedTo seen c.session c.stage
  pub claimed : claim_at (state_of seen) c.stage ≢ None
  pub there : c.stage < stages_of seen
  pub above : from ≤ c.stage
  pub first : NoneOpen from c.stage (state_of seen)

abbrev pub TellsOpenClaim : ℕ → Replica → Result CfRowClaim Code → Type 0
TellsOpenClaim from seen (Ok c) = IsFirstOpen from seen c
TellsOpenClaim from seen (Err code) = (code ≡ Nothing) × NoneOpen from (stages_of seen) (state_of seen)

-- the lowest stage from a number on that a session has claimed, and that isn't settled
pub record IsFirstHeld (session from : ℕ) (seen : Replica) (i : ℕ) : Type 0 where
  pub held : IsHeldBy seen session i
  pub there : i < stages_of seen
  pub above : from ≤ i
  pub first : NoneHeldBy seen session from i

abbrev pub TellsHeld : ℕ → ℕ → Replica → Result ℕ Code → Type 0
TellsHeld session from seen (Ok i) = IsFirstHeld session from seen i
TellsHeld session from seen (Err code) = (code ≡ Nothing) × NoneHeldBy seen session from (stages_of seen)

-- the word that fails the lowest stage from a number on that a session has
abbrev pub TellsAbandon : ℕ → ℕ → ℕ → Replica → Result ℕ Code → Type 0
TellsAbandon session from number seen (Ok word) = Abandons seen session from number word
TellsAbandon session from number seen (Err code) = (code ≡ Nothing) × NoneHeldBy seen session from (stages_of seen)

-- the word that finishes what a task holds, if it holds something that this session has claimed
abbrev pub FinishesOr : Replica → Option Held → Result ℕ Code → Type 0
FinishesOr seen None (Ok word) = ⊥
FinishesOr seen (Some held) (Ok word) = Finishes seen held word
FinishesOr seen None (Err code) = code ≡ Nothing
FinishesOr seen (Some held) (Err code) = (code ≡ Nothing) × HasNoClaim seen held.stage

abbrev pub TellsFinish : CfTask → Replica → Result ℕ Code → Type 0
TellsFinish task seen r = FinishesOr seen (held_by task) r

-- the lowest stage from a number on that the session could claim behind the finish of what a task holds
pub record IsFirstToClaim (task : CfTask) (from : ℕ) (seen : Replica) (i : ℕ) : Type 0 where
  pub can : CanClaim seen (held_by task) i
  pub there : i < stages_of seen
  pub above : from ≤ i
  pub first : NoneToClaim seen (held_by task) from i

abbrev pub TellsNextClaim : CfTask → ℕ → Replica → Result ℕ Code → Type 0
TellsNextClaim task from seen (Ok i) = IsFirstToClaim task from seen i
TellsNextClaim task from seen (Err code) = (code ≡ Nothing) × NoneToClaim seen (held_by task) from (stages_of seen)
