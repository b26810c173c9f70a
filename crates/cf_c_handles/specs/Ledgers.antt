-- What a ledger behind a handle is asked.
use Rattle.std.specs.Prelude.{◌≡◌, ℕ, ◌+◌, ◌<◌, ◌≤◌, true, false, Option, Some, None, Result, Ok, Err, List, [], ◌∷◌, drop, get_or, length, map, nat_lt, slice_get, take, if◌then◌else◌}
use Rattle.std.specs.Option.{option_map}
use Rattle.cf_outcome.specs.declared.outcome.Outcome.{Outcome}
use Rattle.cf_forms.specs.Plans.{Planned, function_at, has_place, with_room}
use Rattle.cf_model.specs.declared.events.Reply.{Reply}
use Rattle.cf_model.specs.declared.replies.Claimed.{Claimed as Claimed'}
use Rattle.cf_model.specs.declared.replies.Claimed.TheVariants.{Granted}
use Rattle.cf_model.specs.declared.stage.Stage.{Stage}
use Rattle.cf_model.specs.declared.stage.Stage.TheVariants.{Pending, Ready, Claimed, Linked, Settled}
use Rattle.cf_model.specs.Graphs.{AreNews, NoneReady, stage_in}
use Rattle.cf_model.specs.States.{State, claim_at, is_ready, start}
use Rattle.cf_event.specs.Words.{word_of}
use Rattle.cf_ledger.specs.declared.faults.LedgerFault.{LedgerFault}
use Rattle.cf_ledger.specs.declared.faults.LedgerFault.TheVariants as faults
use Rattle.cf_ledger.specs.Ledgers.{Ledger as Ledger', Does, DoesAll, IsFirstRefused, LedgerRefuses, stages_of, state_at, state_of, with_more}
use Rattle.cf_row.specs.Rows.{ledger_of}
use Rattle.cf_c_handles.specs.Answers.{Codes}
use Rattle.cf_c_handles.specs.Building.{Fills}
use Rattle.cf_c_handles.specs.Codes.{number_of}
use Rattle.cf_c_handles.specs.Graphs.{of_stage, or_nothing}
use Rattle.cf_c_handles.specs.Replies.{as_reply}
use Rattle.cf_c_handles.specs.Texts.{GivesText}
use Rattle.cf_c_handles.specs.Values.{as_outcome}
use Rattle.cf_c_handles.specs.declared.code.Code.{Code}
use Rattle.cf_c_handles.specs.declared.code.Code.TheVariants.{Empty, Full, WrongKind, NoMemory, NoRoom, NoStage, NoWord, Nothing, Room}
use Rattle.cf_c_handles.specs.declared.handle.object.Object.{Object}
use Rattle.cf_c_handles.specs.declared.handle.object.Object.TheVariants.{Ledger, Plan, Request, Row}
use Rattle.cf_c_handles.specs.declared.values.CfReply.{CfReply}
use Rattle.cf_c_handles.specs.declared.values.stage.CfNews.{CfNews}
use Rattle.cf_c_handles.specs.declared.values.stage.CfStage.{CfStage}

-- ---- a stage as C has it

-- the caller whose claim is open, or nobody
abbrev pub who_or_nobody : Option ℕ → ℕ
who_or_nobody None = 4294967295
who_or_nobody (Some who) = who

abbrev pub stage_with : ℕ → Option ℕ → ℕ → Option Outcome → CfStage
stage_with kind who target outcome = record { kind = kind; who = who_or_nobody who; target = target; outcome = as_outcome outcome }

-- a stage with the caller whose claim is open, if there is one: what it doesn't have is 0
abbrev pub as_stage : Stage → Option ℕ → CfStage
as_stage Pending who = stage_with 0 who 0 None
as_stage (Ready args) who = stage_with 1 who 0 None
as_stage Claimed who = stage_with 2 who 0 None
as_stage (Linked target) who = stage_with 3 who target None
as_stage (Settled o) who = stage_with 4 who 0 (Some o)

abbrev pub stage_now : State → ℕ → CfStage
stage_now s i = as_stage (stage_in s.stages i) (claim_at s i)

-- ---- ledgers are made

-- the ledger of a plan with so much room, in which nothing is written
abbrev pub LedgerOf : ℕ → Object → Result Object Code → Type 0
LedgerOf room (Plan p) (Ok made) = (has_place p.stages room ≡ true) × (made ≡ Ledger (record { plan = with_room p room; events = []; free = 0 }))
LedgerOf room (Plan p) (Err Room) = has_place p.stages room ≡ false
LedgerOf room (Plan p) (Err fault) = (fault ≡ NoMemory) × (has_place p.stages room ≡ true)
LedgerOf room held r = r ≡ Err WrongKind

-- the ledger of a plan and of these words
pub record IsLedgerOf (plan : Planned) (words : List ℕ) (made : Object) : Type 0 where
  pub now : Ledger'
  pub is : made ≡ Ledger now
  pub plan_is : now.plan ≡ plan
  pub written : map word_of now.events ≡ words

-- why there is none, and the place that C is told then: that of the first word that can't be done
abbrev pub IsNoLedgerOf : Planned → ℕ → List ℕ → ℕ → Code → ℕ → Type 0
IsNoLedgerOf p room words had Room has = (has_place p.stages room ≡ false) × (has ≡ had)
IsNoLedgerOf p room words had NoMemory has = (has_place p.stages room ≡ true) × (has ≡ had)
IsNoLedgerOf p room words had NoWord has = (has_place p.stages room ≡ true) × IsFirstRefused (start (with_room p room)) has words faults.NoEvent
IsNoLedgerOf p room words had NoStage has = (has_place p.stages room ≡ true) × IsFirstRefused (start (with_room p room)) has words faults.NoStage
IsNoLedgerOf p room words had NoRoom has = (has_place p.stages room ≡ true) × IsFirstRefused (start (with_room p room)) has words faults.NoRoom
IsNoLedgerOf p room words had code has = ⊥

abbrev pub LedgerFrom : ℕ → List ℕ → Object → ℕ → Result Object Code → ℕ → Type 0
LedgerFrom room words (Plan p) had (Ok made) has = (has_place p.stages room ≡ true) × IsLedgerOf (with_room p room) words made × (has ≡ had)
LedgerFrom room words (Plan p) had (Err fault) has = IsNoLedgerOf p room words had fault has
LedgerFrom room words held had r has = (r ≡ Err WrongKind) × (has ≡ had)

-- of a plan, which stays behind its handle, something is made and put behind an empty handle, and C is told a place
pub record IsMadeFrom (Makes : Object → ℕ → Result Object Code → ℕ → Type 0) (plan : Object) (kept : Option Object) (code : ℕ) (new : Option Object) (had has : ℕ) : Type 0 where
  pub made : Result Object Code
  pub makes : Makes plan had made has
  pub stays : kept ≡ Some plan
  pub fills : Fills made None code new

abbrev pub OpensFrom : (Object → ℕ → Result Object Code → ℕ → Type 0) → Option Object → Option Object → ℕ → Option Object → Option Object → ℕ → ℕ → Type 0
OpensFrom Makes plan kept code (Some old) new had has = (code ≡ number_of Full) × (kept ≡ plan) × (new ≡ Some old) × (has ≡ had)
OpensFrom Makes None kept code None new had has = (code ≡ number_of Empty) × (kept ≡ None) × (new ≡ None) × (has ≡ had)
OpensFrom Makes (Some plan) kept code None new had has = IsMadeFrom Makes plan kept code new had has

-- ---- what it is asked

-- a ledger is asked this, or that of a request or of a view of a row, and stays
abbrev pub OfLedger : {X : Type 0} → (Ledger' → Result X Code → Type 0) → Object → Result X Code → Object → Type 0
OfLedger Tells (Ledger l) r new = Tells l r × (new ≡ Ledger l)
OfLedger Tells (Request m) r new = Tells m.teller.ledger r × (new ≡ Request m)
OfLedger Tells (Row v) r new = Tells (ledger_of v.replica) r × (new ≡ Row v)
OfLedger Tells held r new = (r ≡ Err WrongKind) × (new ≡ held)

abbrev pub TellsStage : ℕ → Ledger' → Result CfStage Code → Type 0
TellsStage i l r = r ≡ of_stage (state_of l) i (stage_now (state_of l) i)

abbrev pub TellsFunction : ℕ → Ledger' → Result ℕ Code → Type 0
TellsFunction i l r =
    r ≡ (if nat_lt i (stages_of l) then or_nothing (function_at (state_of l).plan.stages i) else Err NoStage)

abbrev pub TellsStages : Ledger' → Result ℕ Code → Type 0
TellsStages l r = r ≡ Ok (stages_of l)

-- the lowest ready stage from a number on
pub record IsFirstReady (from : ℕ) (s : State) (i : ℕ) : Type 0 where
  pub above : from ≤ i
  pub there : i < length s.plan.stages
  pub ready : is_ready (stage_in s.stages i) ≡ true
  pub first : NoneReady from i s.stages

abbrev pub TellsReady : ℕ → Ledger' → Result ℕ Code → Type 0
TellsReady from l (Ok i) = IsFirstReady from (state_of l) i
TellsReady from l (Err fault) = (fault ≡ Nothing) × NoneReady from (stages_of l) (state_of l).stages

-- ---- what is done to it

-- it has more room, or there would be too many stages or edges, or no memory is left
abbrev pub Grows : ℕ → Object → Result (Unit {0}) Code → Object → Type 0
Grows more (Ledger l) (Ok done) new = (has_place l.plan.stages (l.plan.room + more) ≡ true) × (new ≡ Ledger (with_more l more))
Grows more (Ledger l) (Err Room) new = (has_place l.plan.stages (l.plan.room + more) ≡ false) × (new ≡ Ledger l)
Grows more (Ledger l) (Err fault) new = (fault ≡ NoMemory) × (has_place l.plan.stages (l.plan.room + more) ≡ true) × (new ≡ Ledger l)
Grows more held r new = (r ≡ Err WrongKind) × (new ≡ held)

abbrev pub word_code : LedgerFault → Code
word_code faults.NoMemory = NoMemory
word_code faults.NoEvent = NoWord
word_code faults.NoStage = NoStage
word_code faults.NoRoom = NoRoom

-- a word isn't done, for this reason
pub record IsNotDone (s : State) (word : ℕ) (code : Code) : Type 0 where
  pub why : LedgerFault
  pub due : LedgerRefuses s word why
  pub is : code ≡ word_code why

abbrev pub news_in : State → ℕ → CfNews
news_in s i = record { stage = i; now = stage_now s i }

-- these stand in a buffer as far as it reaches, and behind them what was there
pub record AreWritten {X : Type 0} (from : ℕ → X) (stages : List ℕ) (old new : List X) : Type 0 where
  pub reach : length new ≡ length old
  pub given : (k : ℕ) → k < length stages → k < length old → slice_get new k ≡ option_map from (slice_get stages k)
  pub kept : (k : ℕ) → length stages ≤ k → slice_get new k ≡ slice_get old k

-- a claim that is granted changes its own stage, and any other none
abbrev pub claimed_stages : Claimed' → ℕ → List ℕ
claimed_stages (Granted args) i = i ∷ []
claimed_stages told i = []

-- and what it is then
abbrev pub claimed_news : ℕ → ℕ → CfNews
claimed_news who i = record { stage = i; now = as_stage Claimed (Some who) }

-- the stages that the event at a place changed are written, each as it is now
pub record HaveNews (l : Ledger') (place : ℕ) (old new : List CfNews) (count : ℕ) : Type 0 where
  pub stages : List ℕ
  pub changed : AreNews (state_at l place).stages (state_at l (place + 1)).stages stages
  pub given : AreWritten (news_in (state_of l)) stages old new
  pub count_is : count ≡ length stages

-- a word is done, and C has its reply, the stages that it changed, and how many these are
pub record HasDone (word : ℕ) (l : Ledger') (new : Object) (had has : CfReply × List CfNews × ℕ) : Type 0 where
  pub told : Reply
  pub now : Ledger'
  pub is : new ≡ Ledger now
  pub done : Does word l told now
  pub replied : has.0 ≡ as_reply told
  pub stages : List ℕ
  pub changed : AreNews (state_of l).stages (state_of now).stages stages
  pub given : AreWritten (news_in (state_of now)) stages had.1 has.1
  pub count : has.2 ≡ length stages

abbrev pub DoesWord : ℕ → Object → CfReply × List CfNews × ℕ → Result (Unit {0}) Code → Object → CfReply × List CfNews × ℕ → Type 0
DoesWord word (Ledger l) had (Ok done) new has = HasDone word l new had has
DoesWord word (Ledger l) had (Err fault) new has = IsNotDone (state_of l) word fault × (new ≡ Ledger l) × (has ≡ had)
DoesWord word held had r new has = (r ≡ Err WrongKind) × (new ≡ held) × (has ≡ had)

-- a row of words is done
pub record IsRowDone (l : Ledger') (words : List ℕ) (new : Object) : Type 0 where
  pub now : Ledger'
  pub is : new ≡ Ledger now
  pub done : DoesAll l words now

-- those before the first that can't be done are done, and this one isn't
pub record IsFrontDone (l : Ledger') (words : List ℕ) (code : Code) (new : Object) (has : ℕ) : Type 0 where
  pub now : Ledger'
  pub is : new ≡ Ledger now
  pub done : DoesAll l (take has words) now
  pub there : has < length words
  pub next : IsNotDone (state_of now) (get_or words has 0) code

-- words are done, and C is told how many
abbrev pub DoesRow : List ℕ → Object → ℕ → Result (Unit {0}) Code → Object → ℕ → Type 0
DoesRow words (Ledger l) had (Ok done) new has = IsRowDone l words new × (has ≡ length words)
DoesRow words (Ledger l) had (Err fault) new has = IsFrontDone l words fault new has
DoesRow words held had r new has = (r ≡ Err WrongKind) × (new ≡ held) × (has ≡ had)

-- nothing is written, as when it was opened, and it has the room that it had in all
abbrev pub StartsAgain : Object → Result (Unit {0}) Code → Object → Type 0
StartsAgain (Ledger l) r new = (r ≡ Ok tt) × (new ≡ Ledger (record l { events = [] }))
StartsAgain held r new = (r ≡ Err WrongKind) × (new ≡ held)

-- ---- what it writes for C

-- a ledger, or that of a request or of a view of a row, writes this, and stays
abbrev pub OfLedgerWriting : {X : Type 0} → (Ledger' → X → Result (Unit {0}) Code → X → Type 0) → Object → X → Result (Unit {0}) Code → Object → X → Type 0
OfLedgerWriting Writes (Ledger l) had r new has = Writes l had r has × (new ≡ Ledger l)
OfLedgerWriting Writes (Request m) had r new has = Writes m.teller.ledger had r has × (new ≡ Request m)
OfLedgerWriting Writes (Row v) had r new has = Writes (ledger_of v.replica) had r has × (new ≡ Row v)
OfLedgerWriting Writes held had r new has = (r ≡ Err WrongKind) × (new ≡ held) × (has ≡ had)

abbrev pub WritesWords : ℕ → Ledger' → List ℕ × ℕ → Result (Unit {0}) Code → List ℕ × ℕ → Type 0
WritesWords from l had r has = (r ≡ Ok tt) × GivesText (drop from (map word_of l.events)) had.0 has.0 has.1

-- the stages that the event at a place changed
pub record HasNews (l : Ledger') (place : ℕ) (had has : List ℕ × ℕ) : Type 0 where
  pub there : place < length l.events
  pub stages : List ℕ
  pub changed : AreNews (state_at l place).stages (state_at l (place + 1)).stages stages
  pub given : GivesText stages had.0 has.0 has.1

abbrev pub WritesNews : ℕ → Ledger' → List ℕ × ℕ → Result (Unit {0}) Code → List ℕ × ℕ → Type 0
WritesNews place l had (Ok done) has = HasNews l place had has
WritesNews place l had (Err fault) has = (fault ≡ Nothing) × (length l.events ≤ place) × (has ≡ had)

-- what stands behind a handle is asked and stays there, what C has is written, and C gets the code
pub record IsWritten {X : Type 0} (Asks : Object → X → Result (Unit {0}) Code → Object → X → Type 0) (held : Object) (new : Option Object) (code : ℕ) (had has : X) : Type 0 where
  pub result : Result (Unit {0}) Code
  pub now : Object
  pub is : new ≡ Some now
  pub asked : Asks held had result now has
  pub codes : Codes result code

abbrev pub Writes : {X : Type 0} → (Object → X → Result (Unit {0}) Code → Object → X → Type 0) → Option Object → Option Object → ℕ → X → X → Type 0
Writes Asks None new code had has = (code ≡ number_of Empty) × (new ≡ None) × (has ≡ had)
Writes Asks (Some held) new code had has = IsWritten Asks held new code had has
