-- Rows of a process's calls, and what may be concluded from any of them.
use Rattle.std.specs.Prelude.{◌≡◌, ◌≢◌, ◌⊎◌, ℕ, ◌≤◌, ◌&&◌, Bool, false, true, cond, eqb, min, Option, Some, None, List, [], ◌∷◌, ◌++◌, All, Contains, length, slice_get}
use Rattle.cf_forms.specs.Plans.{Planned}
use Rattle.cf_row.specs.declared.entry.Entry.{Entry}
use Rattle.cf_row.specs.Rows.{BeginsWith}
use Rattle.cf_due.specs.declared.acts.Act.{Act}
use Rattle.cf_notes.specs.declared.note.Note.{Note}
use Rattle.cf_notes.specs.declared.wants.EndsWith.{EndsWith}
use Rattle.cf_part.specs.Rows.{IsApart}
use Rattle.cf_watch.specs.declared.beat.Beat.{Beat}
use Rattle.cf_turn.specs.Rows.{AreCalls as AreCallsOfWork, all_of, called_by}
use Rattle.cf_turn.specs.Works.{Work}
use Rattle.cf_host.specs.declared.order.Order.{Order}
use Rattle.cf_host.specs.declared.order.Order.TheVariants.{Call, Sleep}
use Rattle.cf_host.specs.declared.request.Request.{Request}
use Rattle.cf_host.specs.declared.requests.Length.{Length}
use Rattle.cf_host.specs.declared.ticket.Asked.TheVariants.{Open as OfOpen}
use Rattle.cf_host.specs.Answering.{Closing, Landing, Refusing}
use Rattle.cf_host.specs.Asking.{Asking, Ending, Growing, Wanting}
use Rattle.cf_host.specs.Hosts.{Answers, AnswersRow, EndsCall, FollowsIn, HearsBeats, HearsNews, Host, IsOpened, LosesRequest, OnRequest, OnRequestFor, Orders, Sleeps, StaysUnanswered, beats_at_in, new_host, HearsRow}
use Rattle.cf_host.specs.Waking.{patience_of, wake_of}

-- one call that goes well, and what it orders
pub data IsCall (old : Host) (out : Option Order) (new : Host) : Type 0 where
  turns : (now : ℕ) (order : Order) → out ≡ Some order → Orders old now order new → IsCall old out new
  follows : (request : ℕ) → out ≡ None → FollowsIn request old new → IsCall old out new
  acts : (now request number until : ℕ) (act : Act) → out ≡ None → OnRequestFor (λ n. Asking n act until) request now number old new → IsCall old out new
  ends : (now request number until : ℕ) → out ≡ None → OnRequestFor (λ n. Ending n until) request now number old new → IsCall old out new
  wants : (request stage : ℕ) (from : Option ℕ) → out ≡ None → OnRequest (Wanting stage from) request old new → IsCall old out new
  grows : (request more : ℕ) → out ≡ None → OnRequest (Growing more) request old new → IsCall old out new
  stirs : (due : ℕ) → out ≡ None → new ≡ record old { news = record old.news { due = due } } → IsCall old out new
  stops : out ≡ None → new ≡ record old { is_stopping = true } → IsCall old out new
  opens : (plan : Planned) (notes : List Note) (room number : ℕ) (is_flow : Bool) → out ≡ None →
      Answers OfOpen (IsOpened old.session plan notes room is_flow) old number new → IsCall old out new
  hears : (now number : ℕ) (entries : List Entry) (notes : List Note) → out ≡ None → HearsRow now entries notes old number new → IsCall old out new
  lands : (number : ℕ) → out ≡ None → AnswersRow Landing old number new → IsCall old out new
  refuses : (now number : ℕ) → out ≡ None → AnswersRow (Refusing now) old number new → IsCall old out new
  closes : (number : ℕ) (is_closed : Bool) → out ≡ None → AnswersRow (Closing is_closed) old number new → IsCall old out new
  beats : (now number clock : ℕ) (beats : List Beat) → out ≡ None → HearsBeats old now number beats clock new → IsCall old out new
  news : (now number mark : ℕ) (lengths : List Length) → out ≡ None → HearsNews old now number lengths mark new → IsCall old out new
  lacks : (now number : ℕ) → out ≡ None → StaysUnanswered old now number new → IsCall old out new
  loses : (number : ℕ) → out ≡ None → LosesRequest old number new → IsCall old out new
  finishes : (number : ℕ) (answer : EndsWith) → out ≡ None → EndsCall answer old number new → IsCall old out new

-- A new process of a session comes to this by these calls. Lists of calls have the last one first.
abbrev pub ComesTo : ℕ → List (Option Order) → Host → Type 0
ComesTo session [] h = (threads : ℕ) × (lease : ℕ) × (takes_all : Bool) × (h ≡ new_host session threads lease takes_all)
ComesTo session (out ∷ outs) h = (before : Host) × ComesTo session outs before × IsCall before out h

-- the stages of a request whose functions are to be called
abbrev pub called_in : ℕ → Option Order → List ℕ
called_in number (Some (Call ticket request i function args)) = cond (eqb request number) (i ∷ []) []
called_in number out = []

abbrev pub calls_of : ℕ → List (Option Order) → List ℕ
calls_of number [] = []
calls_of number (out ∷ outs) = calls_of number outs ++ called_in number out

-- ---- one process

-- no function of a request is called twice
abbrev pub CallsOnce : Type 0
CallsOnce = (session number : ℕ) (outs : List (Option Order)) (h : Host) → ComesTo session outs h → IsApart (calls_of number outs)

-- ---- sleep

-- where a process sleeps, it does so up to the next beat, look, retry and patience at most
pub record WakesInTime (h : Host) (now until : ℕ) : Type 0 where
  pub beats : h.pulse.is_asked ≡ false → until ≤ beats_at_in h
  pub news : h.news.asked ≡ None → until ≤ h.news.due
  pub requests : All (λ (r : Request). until ≤ wake_of now r) h.requests
  pub users : All (λ t. until ≤ patience_of t) h.tickets.waiting

abbrev pub SleepsInTime : Type 0
SleepsInTime = (old new : Host) (now until : ℕ) → Sleeps old now until new → WakesInTime new now until
