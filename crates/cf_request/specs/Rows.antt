-- Rows of a machine's calls, and what its host may conclude from any of them.
use Rattle.std.specs.Prelude.{◌≡◌, ℕ, ◌+◌, ◌≤◌, Option, Some, None, List, [], ◌∷◌, ◌++◌, All, drop, length, map, slice_get, take}
use Rattle.cf_forms.specs.Plans.{function_at}
use Rattle.cf_model.specs.declared.events.Event.{Event}
use Rattle.cf_model.specs.declared.events.Event.TheVariants.{Claim as Claims}
use Rattle.cf_model.specs.declared.events.Reply.{Reply}
use Rattle.cf_model.specs.declared.events.Reply.TheVariants.{Claim as ToldClaim}
use Rattle.cf_model.specs.declared.replies.Claimed.TheVariants.{Granted}
use Rattle.cf_model.specs.Claims.{claimable_count}
use Rattle.cf_model.specs.Events.{answered}
use Rattle.cf_model.specs.States.{State, start}
use Rattle.cf_event.specs.Decoding.{decoded, event_of}
use Rattle.cf_event.specs.Words.{word_of}
use Rattle.cf_ledger.specs.Ledgers.{AreTaken, IsFirstMisfit, Ledger, roomier, state_at, state_of, with_more}
use Rattle.cf_ledger.specs.declared.faults.LedgerFault.{LedgerFault}
use Rattle.cf_ledger.specs.declared.faults.LedgerFault.TheVariants.{NoMemory}
use Rattle.cf_ledger.specs.declared.step.Held.{Held}
use Rattle.cf_ledger.specs.declared.step.Taken.{Taken}
use Rattle.cf_request.specs.Deadlines.{Forgets}
use Rattle.cf_request.specs.Growing.{Grows}
use Rattle.cf_request.specs.Machines.{AppliesWord, CancelsAll, GoesOn, Machine, OnlyDeadlines, OnlyFinds, OnlyTeller, Passes, Refuses, Restarts, SetsDeadline, SetsJoin, state_in}
use Rattle.cf_request.specs.Ready.{HasLanes, Lanes}
use Rattle.cf_request.specs.Telling.{AreFresh, AreSettled, IsApart, IsOnce, with_memory}
use Rattle.cf_request.specs.declared.deadlines.Deadline.{Deadline}
use Rattle.cf_request.specs.declared.joins.Join.{Join}
use Rattle.cf_request.specs.declared.machine.Next.{Next}

-- ---- calls

-- a stage that a caller was told to run
pub record Job : Type 0 where
  pub who : ℕ
  pub taken : Taken

-- what a call hands out: the stages that are to be run, and those whose waiters are to be told
pub record Out : Type 0 where
  pub jobs : List Job
  pub told : List ℕ

abbrev pub nothing : Out
nothing = record { jobs = []; told = [] }

abbrev pub job_of : ℕ → Option Taken → Out
job_of who None = nothing
job_of who (Some t) = record { jobs = (record { who = who; taken = t }) ∷ []; told = [] }

-- the first so many of what is told are taken, and nothing else is done
pub record Took (count : ℕ) (old new : Machine) : Type 0 where
  pub ledger : new.teller.ledger ≡ old.teller.ledger
  pub taken : new.teller.taken ≡ old.teller.taken ++ take count old.teller.told
  pub told : new.teller.told ≡ drop count old.teller.told
  pub lanes : new.teller.lanes ≡ old.teller.lanes
  pub rest : OnlyTeller old new

-- one call, and what it hands out
pub data IsCall (old : Machine) (out : Out) (new : Machine) : Type 0 where
  applies : (word lane : ℕ) (reply : Reply) → out ≡ nothing → AppliesWord word lane old reply new → IsCall old out new
  goes_on : (who lane : ℕ) (held : Option Held) (next : Next) → out ≡ job_of who next.taken → GoesOn who lane held old next new → IsCall old out new
  sets_join : (join : Join) → out ≡ nothing → SetsJoin join old new → IsCall old out new
  sets_deadline : (deadline : Deadline) → out ≡ nothing → SetsDeadline deadline old new → IsCall old out new
  forgets : out ≡ nothing → Forgets (state_in old).stages old.deadlines new.deadlines → OnlyDeadlines old new → IsCall old out new
  passes : (moment : ℕ) → out ≡ nothing → Passes moment old new → IsCall old out new
  refuses : (lane code : ℕ) → out ≡ nothing → Refuses lane code old new → IsCall old out new
  cancels_all : (who : ℕ) → out ≡ nothing → CancelsAll who old new → IsCall old out new
  took : (count : ℕ) → out ≡ (record { jobs = []; told = take count old.teller.told }) → Took count old new → IsCall old out new
  grows : out ≡ nothing → Grows old new → IsCall old out new
  reserves : (words : ℕ) → out ≡ nothing → new ≡ record old { teller = with_memory words old.teller } → IsCall old out new
  is_refused : out ≡ nothing → OnlyFinds old new → IsCall old out new

-- a row of them
abbrev pub AreCalls : Machine → List Out → Machine → Type 0
AreCalls old [] new = new ≡ old
AreCalls old (out ∷ outs) new = (between : Machine) × IsCall old out between × AreCalls between outs new

-- all that they hand out, one behind the other
abbrev pub all_jobs : List Out → List Job
all_jobs [] = []
all_jobs (out ∷ outs) = out.jobs ++ all_jobs outs

abbrev pub all_told : List Out → List ℕ
all_told [] = []
all_told (out ∷ outs) = out.told ++ all_told outs

-- as a request is opened
pub record IsOpened (m : Machine) : Type 0 where
  pub events : m.teller.ledger.events ≡ []
  pub taken : m.teller.taken ≡ []
  pub told : AreFresh [] (start m.teller.ledger.plan).stages m.teller.told

-- ---- who is told

-- all that was taken, one taking behind the other, and what is told and not yet taken, are each settled stage once, in the order of the events
pub record IsToldOnce (m : Machine) (outs : List Out) : Type 0 where
  pub once : IsOnce (state_in m) (all_told outs ++ m.teller.told)
  pub order : AreSettled m.teller.ledger (all_told outs ++ m.teller.told)

abbrev pub TellsOnce : Type 0
TellsOnce = (old new : Machine) (outs : List Out) → IsOpened old → AreCalls old outs new → IsToldOnce new outs

-- ---- what is run

-- the caller's claim of the stage stands at a place among the words and was granted there, with these arguments; and that is the stage's function
pub record WasGranted (ledger : Ledger) (job : Job) : Type 0 where
  pub place : ℕ
  pub stands : slice_get ledger.events place ≡ Some (Claims job.who job.taken.stage)
  pub granted : (answered (state_at ledger place) (Claims job.who job.taken.stage)).0 ≡ ToldClaim (Granted job.taken.args)
  pub function : job.taken.function ≡ function_at (state_at ledger place).plan.stages job.taken.stage

abbrev pub stage_of : Job → ℕ
stage_of job = job.taken.stage

-- no stage is told twice, and each was granted to the caller that was told it
pub record AreRunOnce (ledger : Ledger) (jobs : List Job) : Type 0 where
  pub apart : IsApart (map stage_of jobs)
  pub granted : All (WasGranted ledger) jobs

abbrev pub RunsOnce : Type 0
RunsOnce = (old new : Machine) (outs : List Out) → AreCalls old outs new → AreRunOnce new.teller.ledger (all_jobs outs)

-- how many stages may still be claimed, with those that may be attached
abbrev pub unclaimed : State → ℕ
unclaimed s = claimable_count s + s.plan.room

-- the room that it has had in all, with what growing gave
abbrev pub room_in : Machine → ℕ
room_in m = m.teller.ledger.plan.room

-- each stage that is told leaves fewer that may be claimed, and no call makes them more but growing, by the room that it gives
abbrev pub ComesToAnEnd : Type 0
ComesToAnEnd = (old new : Machine) (outs : List Out) → AreCalls old outs new → length (all_jobs outs) + unclaimed (state_in new) + room_in old ≤ unclaimed (state_in old) + room_in new

-- ---- words

-- an event is that of its word
abbrev pub HasWord : Event → Type 0
HasWord e = event_of (word_of e) ≡ Some e

-- The plan has so much room more, which changes no earlier state but for that. There are more events behind those of before, each of which is taken.
pub record IsLater (old new : Ledger) : Type 0 where
  pub grown : ℕ
  pub plan : new.plan ≡ (with_more old grown).plan
  pub states : (place : ℕ) → state_at (with_more old grown) place ≡ roomier grown (state_at old place)
  pub more : List Event
  pub events : new.events ≡ old.events ++ more
  pub taken : AreTaken (roomier grown (state_of old)) more
  pub words : All HasWord more

-- the lanes of stages stay, and those of later stages stand behind them
pub record AddsLanes (old new : Lanes) : Type 0 where
  pub more : List ℕ
  pub of : new.of ≡ old.of ++ more

-- so it is after a row of calls, what they told is taken behind what was, there are as many lanes, and each stage keeps its lane
pub record IsBehind (old : Machine) (outs : List Out) (new : Machine) : Type 0 where
  pub later : IsLater old.teller.ledger new.teller.ledger
  pub taken : new.teller.taken ≡ old.teller.taken ++ all_told outs
  pub lanes : new.teller.lanes.count ≡ old.teller.lanes.count
  pub adds_lanes : AddsLanes old.teller.lanes new.teller.lanes

abbrev pub AddsBehind : Type 0
AddsBehind = (old new : Machine) (outs : List Out) → AreCalls old outs new → IsBehind old outs new

-- Its words give its events again, and a ledger of the same plan does them all, unless memory is wanting.
pub record IsByWords (ledger : Ledger) : Type 0 where
  pub read : decoded (map word_of ledger.events) ≡ ledger.events
  pub done : (k : ℕ) (why : LedgerFault) → IsFirstMisfit ledger.plan k (map word_of ledger.events) why → why ≡ NoMemory

abbrev pub WordsTellAll : Type 0
WordsTellAll = (old new : Machine) (outs : List Out) → IsOpened old → AreCalls old outs new → IsByWords new.teller.ledger

-- ---- rows that begin anew

-- it is opened, with the plan and the lanes with which another was, and perhaps with more room
pub record IsOpenedAs (first new : Machine) : Type 0 where
  pub opened : IsOpened new
  pub grown : ℕ
  pub plan : new.teller.ledger.plan ≡ (with_more first.teller.ledger grown).plan
  pub lanes : new.teller.lanes ≡ first.teller.lanes

-- A machine that starts again is none of the calls of a row. After any row it is as it was opened, so a row begins anew, of which all laws hold.
abbrev pub BeginsAnew : Type 0
BeginsAnew = (first old new : Machine) (outs : List Out) → IsOpened first → HasLanes (start first.teller.ledger.plan) first.teller.lanes.of → AreCalls first outs old → Restarts old new → IsOpenedAs first new
