-- Rows of a part's calls, and what may be concluded from any of them.
use Rattle.std.specs.Prelude.{◌≡◌, ◌≢◌, ℕ, Bool, max, Option, Some, List, [], ◌∷◌, ◌++◌, All, Contains, slice_set, true}
use Rattle.cf_forms.specs.Plans.{Planned, with_room}
use Rattle.cf_model.specs.States.{start}
use Rattle.cf_ledger.specs.Ledgers.{AreTaken}
use Rattle.cf_ledger.specs.declared.faults.Misfit.{Misfit}
use Rattle.cf_row.specs.declared.entry.Entry.{Entry}
use Rattle.cf_row.specs.Rows.{BeginsWith, history_of}
use Rattle.cf_row.specs.Grants.{IsGrantedTo}
use Rattle.cf_part.specs.declared.progress.Progress.TheVariants.{NotCalled, Ended}
use Rattle.cf_part.specs.declared.question.Fault.{Fault}
use Rattle.cf_part.specs.declared.question.PutOf.{PutOf}
use Rattle.cf_part.specs.declared.question.Question.{Question}
use Rattle.cf_part.specs.declared.step.Step.{Step}
use Rattle.cf_part.specs.declared.step.Step.TheVariants.{Show, Stop, Call}
use Rattle.cf_notes.specs.declared.note.Note.{Note}
use Rattle.cf_notes.specs.declared.wants.EndsWith.{EndsWith}
use Rattle.cf_notes.specs.declared.wants.Owed.{Owed}
use Rattle.cf_notes.specs.declared.wants.Want.{Want}
use Rattle.cf_part.specs.Parts.{Part, call_in, owed_in, session_of}
use Rattle.cf_part.specs.Steps.{Tells}
use Rattle.cf_part.specs.Answers.{Breaks, Closes, Ends, Grows, IsRunning, Lands, Meets, Mismeets, Misreads, PlansWords, Reads, Refuses, Waits}

-- what a call hands out: the stages whose functions are to be called, and those whose functions may end
pub record Out : Type 0 where
  pub calls : List ℕ
  pub stops : List ℕ

abbrev pub nothing : Out
nothing = record { calls = []; stops = [] }

abbrev pub out_of : Step → Out
out_of (Show i shown) = nothing
out_of (Stop i) = record { calls = []; stops = i ∷ [] }
out_of (Call i args) = record { calls = i ∷ []; stops = [] }

-- one call, and what it hands out
pub data IsCall (old : Part) (out : Out) (new : Part) : Type 0 where
  tells : (now : ℕ) (step : Step) → out ≡ out_of step → Tells old now step new → IsCall old out new
  plans : (wants : List Want) (of : PutOf) → out ≡ nothing → PlansWords old wants of new → IsCall old out new
  asks : (q : Question) → out ≡ nothing → new ≡ record old { asked = Some q } → IsCall old out new
  reads : (entries : List Entry) (said : List Note) → out ≡ nothing → Reads old entries said new → IsCall old out new
  misreads : (now : ℕ) (entries : List Entry) (said : List Note) (m : Misfit) → out ≡ nothing → Misreads old now entries said m new → IsCall old out new
  lands : out ≡ nothing → Lands old new → IsCall old out new
  meets : (entries : List Entry) (said : List Note) (landed : Bool) → out ≡ nothing → Meets old entries said landed new → IsCall old out new
  mismeets : (now : ℕ) (entries : List Entry) (said : List Note) (m : Misfit) → out ≡ nothing → Mismeets old now entries said m new → IsCall old out new
  waits : (now : ℕ) → out ≡ nothing → Waits old now new → IsCall old out new
  refuses : (now : ℕ) → out ≡ nothing → Refuses old now new → IsCall old out new
  closes : (is_closed : Bool) → out ≡ nothing → Closes old is_closed new → IsCall old out new
  breaks : (fault : Fault) → out ≡ nothing → Breaks old fault new → IsCall old out new
  ends : (i : ℕ) (answer : EndsWith) → out ≡ nothing → IsRunning old i → Ends old i answer new → IsCall old out new
  wants : (i : ℕ) (from : Option ℕ) → out ≡ nothing → new ≡ record old { wanted = slice_set old.wanted i from } → IsCall old out new
  hears : (words : ℕ) → out ≡ nothing → new ≡ record old { words = max old.words words } → IsCall old out new
  grows : (more : ℕ) → out ≡ nothing → Grows old more new → IsCall old out new
  reads_again : out ≡ nothing → new ≡ record old { is_stale = true } → IsCall old out new

-- a row of them
abbrev pub AreCalls : Part → List Out → Part → Type 0
AreCalls old [] new = new ≡ old
AreCalls old (out ∷ outs) new = (between : Part) × IsCall old out between × AreCalls between outs new

-- all that they hand out, one behind the other
abbrev pub all_of : (Out → List ℕ) → List Out → List ℕ
all_of pick [] = []
all_of pick (out ∷ outs) = pick out ++ all_of pick outs

abbrev pub all_calls : List Out → List ℕ
all_calls outs = all_of (λ (out : Out). out.calls) outs

abbrev pub all_stops : List Out → List ℕ
all_stops outs = all_of (λ (out : Out). out.stops) outs

-- no function was called yet
abbrev pub IsFresh : Part → Type 0
IsFresh p = (i : ℕ) → call_in p.calls i ≡ NotCalled

-- no number stands twice
abbrev pub IsApart : List ℕ → Type 0
IsApart [] = Unit {0}
IsApart (x ∷ xs) = All (λ y. x ≢ y) xs × IsApart xs

-- ---- one part

-- no function is called twice, and the claim of each stage was granted to the session in what it has seen
pub record AreCalledOnce (p : Part) (calls : List ℕ) : Type 0 where
  pub apart : IsApart calls
  pub granted : All (IsGrantedTo p.row.replica (session_of p)) calls

abbrev pub CallsOnce : Type 0
CallsOnce = (old new : Part) (outs : List Out) → AreCalls old outs new → AreCalledOnce new (all_calls outs)

-- no stop is told twice, and each is of a function that was called
pub record AreStoppedOnce (outs : List Out) : Type 0 where
  pub apart : IsApart (all_stops outs)
  pub called : All (Contains (all_calls outs)) (all_stops outs)

abbrev pub StopsOnce : Type 0
StopsOnce = (old new : Part) (outs : List Out) → IsFresh old → AreCalls old outs new → AreStoppedOnce outs

-- a stage's function has ended, and this is what it came to
pub record IsOwed (p : Part) (i : ℕ) (answer : EndsWith) : Type 0 where
  pub ended : call_in p.calls i ≡ Ended
  pub owed : Owed
  pub is : owed_in p.owed i ≡ Some owed
  pub answers : owed.answer ≡ answer

-- What a function came to is kept over any row of calls, whatever is refused or unanswered. So the stage is owed while its claim is open.
abbrev pub KeepsOwed : Type 0
KeepsOwed = (old new : Part) (outs : List Out) (i : ℕ) (answer : EndsWith) → IsOwed old i answer → AreCalls old outs new → IsOwed new i answer

-- ---- parts of several sessions

-- a session's part in the request, from its first call to its last, and what it was told to call
pub record Work : Type 0 where
  pub first : Part
  pub last : Part
  pub outs : List Out

-- It is of this plan, with whatever room, and made of these calls. Whatever the session was told of the row is true, and its graph took it,
-- as `Replica::ledger` ensures.
pub record IsWork (plan : Planned) (row : List Entry) (w : Work) : Type 0 where
  pub plan_is : w.first.row.replica.plan ≡ with_room plan w.first.row.replica.plan.room
  pub calls : AreCalls w.first w.outs w.last
  pub true_seen : BeginsWith row w.last.row.replica.seen
  pub taken : AreTaken (start w.last.row.replica.plan) (history_of w.last.row.replica.seen)

-- no two are one session's
abbrev pub AreOfOneEach : List Work → Type 0
AreOfOneEach [] = Unit {0}
AreOfOneEach (w ∷ works) = All (λ (v : Work). session_of v.first ≢ session_of w.first) works × AreOfOneEach works

-- all that they were told to call
abbrev pub called_by_all : List Work → List ℕ
called_by_all [] = []
called_by_all (w ∷ works) = all_calls w.outs ++ called_by_all works

-- ALL PROCESSES: whatever the row is, if what each session was told of it is true, each stage's function is called at most once by all of them.
abbrev pub AllCallOnce : Type 0
AllCallOnce =
    (plan : Planned) (row : List Entry) (works : List Work) → All (IsWork plan row) works → AreOfOneEach works → IsApart (called_by_all works)
