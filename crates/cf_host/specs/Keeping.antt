-- What a process keeps of a request, whatever it is ordered, told and asked: what functions came to, whom it has to show a stage, and whom
-- it has to tell what became of an act.
use Rattle.std.specs.Prelude.{◌≡◌, ◌⊎◌, ℕ, ◌≤◌, Option, Some, None, List, [], ◌∷◌, ◌++◌, Contains, map}
use Rattle.cf_forms.specs.Plans.{with_room}
use Rattle.cf_model.specs.States.{outcome_at}
use Rattle.cf_notes.specs.declared.wants.EndsWith.{EndsWith}
use Rattle.cf_row.specs.Grants.{IsGrantedTo}
use Rattle.cf_part.specs.declared.question.Question.{Question}
use Rattle.cf_part.specs.declared.question.Question.TheVariants.{Read, Put, Close}
use Rattle.cf_part.specs.declared.step.Shown.{Shown}
use Rattle.cf_part.specs.Parts.{seen_by, session_of, state_in, wanted_in}
use Rattle.cf_part.specs.Rows.{IsApart, IsOwed}
use Rattle.cf_turn.specs.declared.wish.End.{End}
use Rattle.cf_turn.specs.declared.wish.Told.{Told}
use Rattle.cf_turn.specs.declared.wish.Wish.{Wish}
use Rattle.cf_turn.specs.Works.{Work}
use Rattle.cf_host.specs.declared.order.Order.{Order}
use Rattle.cf_host.specs.declared.order.Order.TheVariants.{Row, Show, Tell}
use Rattle.cf_host.specs.declared.ticket.Asked.TheVariants.{Row as OfRow}
use Rattle.cf_host.specs.declared.ticket.Ticket.{Ticket}
use Rattle.cf_host.specs.Asking.{Growing, Wanting}
use Rattle.cf_host.specs.Hosts.{EndsCall, Host, OnRequest, Orders, Sleeps}
use Rattle.cf_host.specs.Laws.{ComesTo, IsCall}
use Rattle.cf_host.specs.Requests.{IsAt}
use Rattle.cf_host.specs.Tickets.{Shuts, ticket_of}

-- calls by which a process goes on, the last one first
abbrev pub GoesOn : Host → List (Option Order) → Host → Type 0
GoesOn old [] new = new ≡ old
GoesOn old (out ∷ outs) new = (before : Host) × GoesOn old outs before × IsCall before out new

-- this is the work of a request, which is opened
pub record IsWorkIn (h : Host) (request : ℕ) (w : Work) : Type 0 where
  pub place : ℕ
  pub at : IsAt request place h.requests
  pub is : at.request.work ≡ Some w

-- an answer about this request's row is taken: its ticket is closed
pub record ClosesRow (request : ℕ) (old : Host) (out : Option Order) (new : Host) : Type 0 where
  pub none : out ≡ None
  pub number : ℕ
  pub ticket : Ticket
  pub is : ticket_of number old.tickets.waiting ≡ Some ticket
  pub of : ticket.of ≡ OfRow request
  pub shuts : Shuts number old.tickets new.tickets

-- ---- what functions came to

-- the function of a stage has ended, what it came to is kept, and the claim of the stage was granted to this session
pub record KeepsValue (h : Host) (request stage : ℕ) (answer : EndsWith) : Type 0 where
  pub work : Work
  pub is : IsWorkIn h request work
  pub kept : IsOwed work.part stage answer
  pub granted : IsGrantedTo work.part.row.replica (session_of work.part) stage

-- NO VALUE IS LOST: behind the end of a function, whatever is refused, unanswered or asked, what it came to is kept. So its finish is due as
-- long as the claim is open in what the session has seen.
abbrev pub NoValueIsLost : Type 0
NoValueIsLost =
    (session : ℕ) (outs more : List (Option Order)) (old between new : Host) (number : ℕ) (answer : EndsWith) → ComesTo session outs old →
    (e : EndsCall answer old number between) → GoesOn between more new → KeepsValue new e.ends.is.request e.stage answer

-- ---- what is shown

-- somebody waits for a stage
pub record IsWantedIn (h : Host) (request stage : ℕ) : Type 0 where
  pub work : Work
  pub is : IsWorkIn h request work
  pub from : ℕ
  pub wanted : wanted_in work.part.wanted stage ≡ Some from

-- it is shown, or nobody waits for it any more
abbrev pub EndsWanting : Host → Option Order → Host → ℕ → ℕ → Type 0
EndsWanting old out new request stage =
    ((shown : Shown) × (out ≡ Some (Show request stage shown))) ⊎ OnRequest (Wanting stage None) request old new

-- by each call a stage for which somebody waits stays so, or is shown, or nobody waits for it any more
abbrev pub StaysWanted : Type 0
StaysWanted =
    (session : ℕ) (outs : List (Option Order)) (old : Host) (out : Option Order) (new : Host) (request stage : ℕ) → ComesTo session outs old →
    IsCall old out new → IsWantedIn old request stage → IsWantedIn new request stage ⊎ EndsWanting old out new request stage

-- Where the process sleeps, none that is to be shown by now is settled, as the session has seen; nor is there a fault.
pub record IsUnsettled (h : Host) (now request stage : ℕ) (w : IsWantedIn h request stage) : Type 0 where
  pub pending : w.from ≤ now → outcome_at (state_in w.work.part) stage ≡ None
  pub sound : w.work.part.fault ≡ None

abbrev pub ShowsBeforeSleep : Type 0
ShowsBeforeSleep =
    (old new : Host) (now until request stage : ℕ) → Sleeps old now until new → (wanted : IsWantedIn old request stage) →
    IsUnsettled old now request stage wanted

-- ---- what users are told

-- the numbers of acts and ends whose users are still to be told
abbrev pub asked_by : Work → List ℕ
asked_by w = map (λ (x : Wish). x.number) w.wishes ++ map (λ (x : End). x.number) w.ends

-- one of a request
pub record IsAskedIn (h : Host) (request number : ℕ) : Type 0 where
  pub work : Work
  pub is : IsWorkIn h request work
  pub asked : Contains (asked_by work) number

-- by each call it stays asked, or its user is told
abbrev pub StaysAsked : Type 0
StaysAsked =
    (session : ℕ) (outs : List (Option Order)) (old : Host) (out : Option Order) (new : Host) (request number : ℕ) → ComesTo session outs old →
    IsCall old out new → IsAskedIn old request number → IsAskedIn new request number ⊎ ((told : Told) × (out ≡ Some (Tell number told)))

-- the tickets of which a user was told
abbrev pub told_in : Option Order → List ℕ
told_in (Some (Tell number told)) = number ∷ []
told_in out = []

abbrev pub told_by : List (Option Order) → List ℕ
told_by [] = []
told_by (out ∷ outs) = told_in out ++ told_by outs

-- NO USER IS TOLD TWICE of one act or end.
abbrev pub TellsOnce : Type 0
TellsOnce = (session : ℕ) (outs : List (Option Order)) (h : Host) → ComesTo session outs h → IsApart (told_by outs)

-- ---- what is seen

-- A call leaves the plan and what was seen of a request's row. Or it makes room in the plan for more stages, and leaves what was seen; or it
-- opens the request, of which nothing is seen yet; or it takes an answer about the row.
pub data ComesToSee (request : ℕ) (old : Host) (out : Option Order) (new : Host) (w : Work) : Type 0 where
  stays : (before : Work) → IsWorkIn old request before → w.part.row.replica.plan ≡ before.part.row.replica.plan →
      w.part.row.replica.seen ≡ before.part.row.replica.seen → ComesToSee request old out new w
  grows : (before : Work) (more : ℕ) → IsWorkIn old request before → OnRequest (Growing more) request old new →
      w.part.row.replica.plan ≡ with_room before.part.row.replica.plan w.part.row.replica.plan.room →
      w.part.row.replica.seen ≡ before.part.row.replica.seen → ComesToSee request old out new w
  begins : w.part.row.replica.seen ≡ [] → ComesToSee request old out new w
  answers : ClosesRow request old out new → ComesToSee request old out new w

-- What is seen comes by answers alone.
abbrev pub SeesByAnswers : Type 0
SeesByAnswers =
    (session : ℕ) (outs : List (Option Order)) (old : Host) (out : Option Order) (new : Host) (request : ℕ) (w : Work) → ComesTo session outs old →
    IsCall old out new → IsWorkIn new request w → ComesToSee request old out new w

-- the place of a question
abbrev pub place_in : Question → ℕ
place_in (Read at) = at
place_in (Put at) = at
place_in (Close at) = at

-- the ticket is of this request's row, and the request's work asks this, behind all that was seen
pub record IsAskedFor (h : Host) (request number : ℕ) (q : Question) : Type 0 where
  pub work : Work
  pub is : IsWorkIn h request work
  pub asked : work.part.asked ≡ Some q
  pub place : place_in q ≡ seen_by work.part
  pub ticket : Ticket
  pub found : ticket_of number h.tickets.waiting ≡ Some ticket
  pub of : ticket.of ≡ OfRow request

-- Each question about a row is asked so.
abbrev pub AsksBehindSeen : Type 0
AsksBehindSeen =
    (session : ℕ) (outs : List (Option Order)) (old new : Host) (now request number : ℕ) (q : Question) → ComesTo session outs old →
    Orders old now (Row number request q) new → IsAskedFor new request number q
