-- Rows of a work's calls, and what may be concluded from any of them.
use Rattle.std.specs.Prelude.{◌≡◌, ◌≢◌, ℕ, ◌-◌, Bool, false, max, Option, Some, None, List, [], ◌∷◌, ◌++◌, All, slice_set, true}
use Rattle.cf_forms.specs.Plans.{Planned, with_room}
use Rattle.cf_model.specs.States.{start}
use Rattle.cf_ledger.specs.Ledgers.{AreTaken}
use Rattle.cf_ledger.specs.declared.faults.Misfit.{Misfit}
use Rattle.cf_row.specs.declared.entry.Entry.{Entry}
use Rattle.cf_row.specs.Rows.{BeginsWith, history_of}
use Rattle.cf_notes.specs.declared.note.Note.{Note}
use Rattle.cf_notes.specs.declared.wants.EndsWith.{EndsWith}
use Rattle.cf_due.specs.declared.acts.Act.{Act}
use Rattle.cf_part.specs.declared.question.Fault.{Fault}
use Rattle.cf_part.specs.Parts.{Part, session_of}
use Rattle.cf_part.specs.Answers.{Breaks, Ends, Grows, IsRunning, Misreads, Reads}
use Rattle.cf_part.specs.Rows.{AreCalls as AreCallsOfPart, IsApart, Out, all_calls, all_stops}
use Rattle.cf_turn.specs.declared.turn.Turn.{Turn}
use Rattle.cf_turn.specs.declared.turn.Turn.TheVariants.{Stop, Call}
use Rattle.cf_turn.specs.declared.wish.End.{End}
use Rattle.cf_turn.specs.Works.{Work, wish_of}
use Rattle.cf_turn.specs.Turns.{Moment, Rests, Turns}
use Rattle.cf_turn.specs.Answers.{ClosesWork, LandsWork, MeetsWork, MismeetsWork, RefusesWork, WaitsWork}

-- the part is changed, and no act's put is under way
abbrev pub IsFreed : Work → Work → Type 0
IsFreed old new = new ≡ record old { part = new.part; is_acting = false }

-- one call, and the turn that it tells
pub data IsCall (old : Work) (out : Option Turn) (new : Work) : Type 0 where
  turns : (at : Moment) (t : Turn) → out ≡ Some t → Turns old at t new → IsCall old out new
  rests : (at : Moment) → out ≡ None → Rests old at new → IsCall old out new
  finds : (more : ℕ) → out ≡ None → new ≡ record old { free = max old.free more } → IsCall old out new
  asks : (number : ℕ) (act : Act) (until : ℕ) → out ≡ None → new ≡ record old { wishes = old.wishes ++ wish_of number act until ∷ []; free = old.free - 1 } → IsCall old out new
  ends : (end : End) → out ≡ None → new ≡ record old { ends = old.ends ++ end ∷ []; free = old.free - 1 } → IsCall old out new
  wants : (i : ℕ) (from : Option ℕ) → out ≡ None → new ≡ record old { part = record old.part { wanted = slice_set old.part.wanted i from } } → IsCall old out new
  hears : (words : ℕ) → out ≡ None → new ≡ record old { part = record old.part { words = max old.part.words words } } → IsCall old out new
  grows : (more : ℕ) → out ≡ None → Grows old.part more new.part → (new ≡ record old { part = new.part }) → IsCall old out new
  reads_again : out ≡ None → new ≡ record old { part = record old.part { is_stale = true } } → IsCall old out new
  finishes : (i : ℕ) (answer : EndsWith) → out ≡ None → IsRunning old.part i → Ends old.part i answer new.part → (new ≡ record old { part = new.part }) → IsCall old out new
  reads : (entries : List Entry) (notes : List Note) → out ≡ None → Reads old.part entries notes new.part → IsFreed old new → IsCall old out new
  misreads : (now : ℕ) (entries : List Entry) (notes : List Note) (m : Misfit) → out ≡ None → Misreads old.part now entries notes m new.part → IsFreed old new → IsCall old out new
  lands : out ≡ None → LandsWork old new → IsCall old out new
  meets : (entries : List Entry) (notes : List Note) (landed : Bool) → out ≡ None → MeetsWork old entries notes landed new → IsCall old out new
  mismeets : (now : ℕ) (entries : List Entry) (notes : List Note) (m : Misfit) → out ≡ None → MismeetsWork old now entries notes m new → IsCall old out new
  waits : (now : ℕ) → out ≡ None → WaitsWork old now new → IsCall old out new
  refuses : (now : ℕ) → out ≡ None → RefusesWork old now new → IsCall old out new
  closes : (is_closed : Bool) → out ≡ None → ClosesWork old is_closed new → IsCall old out new
  breaks : (fault : Fault) → out ≡ None → Breaks old.part fault new.part → IsFreed old new → IsCall old out new

-- a row of them
abbrev pub AreCalls : Work → List (Option Turn) → Work → Type 0
AreCalls old [] new = new ≡ old
AreCalls old (out ∷ outs) new = (between : Work) × IsCall old out between × AreCalls between outs new

-- the stages whose functions are to be called, and those whose functions may end
abbrev pub called_by : Option Turn → List ℕ
called_by (Some (Call i function args)) = i ∷ []
called_by out = []

abbrev pub stopped_by : Option Turn → List ℕ
stopped_by (Some (Stop i)) = i ∷ []
stopped_by out = []

abbrev pub all_of : (Option Turn → List ℕ) → List (Option Turn) → List ℕ
all_of pick [] = []
all_of pick (out ∷ outs) = pick out ++ all_of pick outs

-- ---- a work and its part

-- calls of the part by which it comes to this, and which tell to call and to stop the same
pub record ArePartsCalls (old : Part) (outs : List (Option Turn)) (new : Part) : Type 0 where
  pub parts : List Out
  pub are : AreCallsOfPart old parts new
  pub calls : all_calls parts ≡ all_of called_by outs
  pub stops : all_stops parts ≡ all_of stopped_by outs

abbrev pub WorksArePartsCalls : Type 0
WorksArePartsCalls = (old new : Work) (outs : List (Option Turn)) → AreCalls old outs new → ArePartsCalls old.part outs new.part

-- ---- works of several sessions

-- a session's work at the request, from its first call to its last, and what it was told
pub record Run : Type 0 where
  pub first : Work
  pub last : Work
  pub outs : List (Option Turn)

-- It is of this plan, with whatever room, and made of these calls. Whatever the session was told of the row is true, and its graph took it.
pub record IsRun (plan : Planned) (row : List Entry) (run : Run) : Type 0 where
  pub plan_is : run.first.part.row.replica.plan ≡ with_room plan run.first.part.row.replica.plan.room
  pub calls : AreCalls run.first run.outs run.last
  pub true_seen : BeginsWith row run.last.part.row.replica.seen
  pub taken : AreTaken (start run.last.part.row.replica.plan) (history_of run.last.part.row.replica.seen)

-- no two are one session's
abbrev pub AreOfOneEach : List Run → Type 0
AreOfOneEach [] = Unit {0}
AreOfOneEach (run ∷ runs) = All (λ (other : Run). session_of other.first.part ≢ session_of run.first.part) runs × AreOfOneEach runs

-- all that they were told to call
abbrev pub called_by_all : List Run → List ℕ
called_by_all [] = []
called_by_all (run ∷ runs) = all_of called_by run.outs ++ called_by_all runs

-- ALL PROCESSES: whatever the row is, if what each session was told of it is true, each stage's function is called at most once by all of them.
abbrev pub AllCallOnceInWorks : Type 0
AllCallOnceInWorks =
    (plan : Planned) (row : List Entry) (runs : List Run) → All (IsRun plan row) runs → AreOfOneEach runs → IsApart (called_by_all runs)
