-- What a process does with all requests of a store.
use Rattle.std.specs.Prelude.{◌≡◌, ◌≢◌, ◌⊎◌, ℕ, ◌<◌, ◌≤◌, ◌&&◌, ◌||◌, Bool, true, false, cond, min, nat_lt, not, Option, Some, None, List, [], ◌∷◌, is_some, length, slice_get, slice_set}
use Rattle.std.specs.Bool.{OnFalse, OnTrue}
use Rattle.cf_forms.specs.Plans.{Planned}
use Rattle.cf_notes.specs.declared.note.Note.{Note}
use Rattle.cf_notes.specs.declared.wants.EndsWith.{EndsWith}
use Rattle.cf_part.specs.Parts.{Part, opened}
use Rattle.cf_row.specs.declared.entry.Entry.{Entry}
use Rattle.cf_watch.specs.declared.beat.Beat.{Beat}
use Rattle.cf_watch.specs.Watches.{TakesAnswer, Watch, forgotten, new_watch}
use Rattle.cf_turn.specs.declared.turn.Turn.{Turn}
use Rattle.cf_turn.specs.declared.turn.Turn.TheVariants.{Tell as TellTurn, Show as ShowTurn, Stop as StopTurn, Call as CallTurn, Ask as AskTurn}
use Rattle.cf_turn.specs.Turns.{Moment, Rests, Turns, moment_of}
use Rattle.cf_turn.specs.Works.{Work, new_work}
use Rattle.cf_host.specs.declared.clock.Reading.{Reading}
use Rattle.cf_host.specs.declared.news.Look.{Look}
use Rattle.cf_host.specs.declared.order.NoAnswer.{NoAnswer}
use Rattle.cf_host.specs.declared.order.NoAnswer.TheVariants.{NoTicket, Unfit, NoMemory}
use Rattle.cf_host.specs.declared.order.Order.{Order}
use Rattle.cf_host.specs.declared.order.Order.TheVariants.{Beats, News as LooksFor, Open, Row, Call, Stop, Show, Tell, Sleep}
use Rattle.cf_host.specs.declared.pulse.Pulse.{Pulse}
use Rattle.cf_host.specs.declared.request.Request.{Request}
use Rattle.cf_host.specs.declared.requests.Length.{Length}
use Rattle.cf_host.specs.declared.ticket.Asked.{Asked}
use Rattle.cf_host.specs.declared.ticket.Asked.TheVariants.{Beats as OfBeats, News as OfNews, Open as OfOpen, Row as OfRow, Call as OfCall, Act as OfAct}
use Rattle.cf_host.specs.declared.ticket.Ticket.{Ticket}
use Rattle.cf_host.specs.Answering.{Breaking, Hearing, Waiting}
use Rattle.cf_host.specs.Asking.{CallEnding}
use Rattle.cf_host.specs.Busy.{AreBusy}
use Rattle.cf_host.specs.Lost.{HasLostIn, NoneLostIn}
use Rattle.cf_host.specs.News.{News, answered_by, asked_by, is_whole, look_of, no_news, unanswered_by}
use Rattle.cf_host.specs.Pulses.{beats_answered, beats_asked, beats_at, beats_silent, clock_of, later_by}
use Rattle.cf_host.specs.Requests.{Begins, Follows, HearsAll, IsAt, IsPartOf, OnWork, looked_for}
use Rattle.cf_host.specs.Tickets.{AreSame, Opens, Shuts, Tickets, call_in, no_tickets, ticket_of}
use Rattle.cf_turn.specs.Timers.{never}
use Rattle.cf_host.specs.Waking.{first_moment, first_patience, first_wake}

-- What a contract sees: the session; how many functions may run at once; how long a session may be silent; whether the process takes up all
-- requests that it hears of; whether it calls no functions any more; whether others take it for gone, and it hasn't beaten since; the sessions; the beats with the store's clock; the looks for news; the
-- tickets; and the requests, in the order in which they were taken up.
pub record Host : Type 0 where
  pub session : ℕ
  pub threads : ℕ
  pub lease : ℕ
  pub takes_all : Bool
  pub is_stopping : Bool
  pub is_taken_for_gone : Bool
  pub watch : Watch
  pub pulse : Pulse
  pub news : News
  pub tickets : Tickets
  pub requests : List Request

abbrev pub new_host : ℕ → ℕ → ℕ → Bool → Host
new_host session threads lease takes_all =
    record {
      session = session;
      threads = threads;
      lease = lease;
      takes_all = takes_all;
      is_stopping = false;
      is_taken_for_gone = false;
      watch = new_watch lease;
      pulse = record { is_asked = false; next = 0; reading = None };
      news = no_news;
      tickets = no_tickets;
      requests = [];
    }

-- nothing changes
pub record Keeps (old new : Host) : Type 0 where
  pub tickets : AreSame old.tickets new.tickets
  pub rest : new ≡ record old { tickets = new.tickets }

-- ---- what is due

-- what the store's clock has come to at least
abbrev pub clock_in : Host → ℕ
clock_in h = clock_of h.pulse.reading

-- when the next question for beats is due: as the pulse has it, for the first timer that hasn't come
abbrev pub beats_at_in : Host → ℕ
beats_at_in h = beats_at h.pulse (first_moment (clock_in h) h.requests)

pub record BeatsAreDue (h : Host) (now : ℕ) : Type 0 where
  pub free : h.pulse.is_asked ≡ false
  pub due : beats_at_in h ≤ now

-- a look is open, or isn't due
abbrev pub NoLookIsDue : Host → ℕ → Type 0
NoLookIsDue h now = (h.news.asked ≢ None) ⊎ (now < h.news.due)

-- a request is to be opened
pub record IsToOpen (now : ℕ) (r : Request) : Type 0 where
  pub work : r.work ≡ None
  pub asked : r.is_asked ≡ false
  pub there : r.is_dropped ≡ false
  pub due : r.retry ≤ now

abbrev pub NoneToOpen : ℕ → ℕ → List Request → Type 0
NoneToOpen now to requests = (k : ℕ) (r : Request) → k < to → slice_get requests k ≡ Some r → ¬ IsToOpen now r

abbrev pub IsToOpenAt : ℕ → ℕ → List Request → Type 0
IsToOpenAt now place requests = (r : Request) × (slice_get requests place ≡ Some r) × IsToOpen now r

-- a stage may be claimed: the process isn't stopping, others don't take it for gone, and one of its threads is free
pub record MayClaim (h : Host) (may_claim : Bool) : Type 0 where
  pub busy : ℕ
  pub are : AreBusy h.requests busy
  pub is : may_claim ≡ (not h.is_stopping && not h.is_taken_for_gone && nat_lt busy h.threads)

abbrev pub moment_in : Host → ℕ → Bool → Moment
moment_in h now may_claim = moment_of now h.watch (clock_in h) may_claim

-- when something is to be done next, without an answer or a call
abbrev pub until_of : ℕ → Host → ℕ
until_of now h =
    min (min (cond h.pulse.is_asked never (beats_at_in h)) (cond (is_some h.news.asked) never h.news.due))
    (min (first_wake now h.requests) (first_patience h.tickets.waiting))

-- ---- turns of works

-- nothing is to be done in a request by now
abbrev pub RestsIn : Moment → Request → Request → Type 0
RestsIn at old new = ((old.work ≡ None) × (new ≡ old)) ⊎ OnWork (λ (w v : Work). Rests w at v) old new

-- nor in any of the first so many
abbrev pub RestTo : Moment → ℕ → List Request → List Request → Type 0
RestTo at to old new =
    (k : ℕ) (r : Request) → k < to → slice_get old k ≡ Some r → (after : Request) × (slice_get new k ≡ Some after) × RestsIn at r after

pub record AllRest (at : Moment) (old new : List Request) : Type 0 where
  pub count : length new ≡ length old
  pub each : RestTo at (length old) old new

-- nothing is to be done in those before this one, whose work has this turn
pub record FirstTurns (at : Moment) (old : List Request) (number : ℕ) (t : Turn) (new : List Request) : Type 0 where
  pub place : ℕ
  pub before : Request
  pub after : Request
  pub there : slice_get old place ≡ Some before
  pub named : before.number ≡ number
  pub turns : OnWork (λ (w v : Work). Turns w at t v) before after
  pub count : length new ≡ length old
  pub rest : RestTo at place old new
  pub is : slice_get new place ≡ Some after
  pub others : (k : ℕ) → place < k → slice_get new k ≡ slice_get old k

-- a ticket is opened of this, at this moment
pub record OpensOf (of : Asked) (now number : ℕ) (old new : Tickets) : Type 0 where
  pub ticket : Ticket
  pub opens : Opens ticket old new
  pub is : ticket.of ≡ of
  pub asked : ticket.asked ≡ now
  pub named : ticket.number ≡ number

-- what a turn of a request's work orders by now
abbrev pub OrdersTurn : ℕ → ℕ → Turn → Order → Tickets → Tickets → Type 0
OrdersTurn now request (TellTurn number told) order old new = (order ≡ Tell number told) × Shuts number old new
OrdersTurn now request (ShowTurn i shown) order old new = (order ≡ Show request i shown) × AreSame old new
OrdersTurn now request (StopTurn i) order old new = (order ≡ Stop (call_in request i old.waiting)) × AreSame old new
OrdersTurn now request (CallTurn i function args) order old new =
    (number : ℕ) × (order ≡ Call number request i function args) × OpensOf (OfCall request i) now number old new
OrdersTurn now request (AskTurn q) order old new = (number : ℕ) × (order ≡ Row number request q) × OpensOf (OfRow request) now number old new

-- who is taken for gone beats right behind a question about a row
abbrev pub beats_sooner : Bool → ℕ → Turn → Pulse → Pulse
beats_sooner true now (AskTurn q) p = record p { next = min p.next now }
beats_sooner taken now t p = p

-- nothing else is due, and the first work that has a turn has it
pub record WorksOn (old : Host) (now : ℕ) (order : Order) (new : Host) : Type 0 where
  pub beats : ¬ BeatsAreDue old now
  pub news : NoLookIsDue old now
  pub opens : NoneToOpen now (length old.requests) old.requests
  pub may_claim : Bool
  pub may : MayClaim old may_claim
  pub request : ℕ
  pub turn : Turn
  pub turns : FirstTurns (moment_in old now may_claim) old.requests request turn new.requests
  pub orders : OrdersTurn now request turn order old.tickets new.tickets
  pub rest : new ≡ record old {
    tickets = new.tickets;
    requests = new.requests;
    pulse = beats_sooner old.is_taken_for_gone now turn old.pulse;
  }

-- no work has one
pub record WorksNothing (old : Host) (now : ℕ) (new : Host) : Type 0 where
  pub may_claim : Bool
  pub may : MayClaim old may_claim
  pub all : AllRest (moment_in old now may_claim) old.requests new.requests
  pub rest : new ≡ record old { requests = new.requests }

-- ---- a turn

-- the next look is to be at all
pub record AsksBeats (old : Host) (now number : ℕ) (new : Host) : Type 0 where
  pub due : BeatsAreDue old now
  pub opens : OpensOf OfBeats now number old.tickets new.tickets
  pub rest : new ≡ record old {
    tickets = new.tickets;
    pulse = beats_asked now old.lease old.pulse;
    news = record old.news { is_whole_due = true };
  }

-- no beats are due, but a look is
pub record AsksNews (old : Host) (now number : ℕ) (look : Look) (new : Host) : Type 0 where
  pub beats : ¬ BeatsAreDue old now
  pub free : old.news.asked ≡ None
  pub due : old.news.due ≤ now
  pub is : look ≡ look_of old.news.is_whole_due old.news.mark
  pub opens : OpensOf OfNews now number old.tickets new.tickets
  pub rest : new ≡ record old { tickets = new.tickets; news = asked_by old.news }

-- no beats and no look are due, and this is the first request that is to be opened
pub record AsksOpen (old : Host) (now number request : ℕ) (new : Host) : Type 0 where
  pub beats : ¬ BeatsAreDue old now
  pub news : NoLookIsDue old now
  pub place : ℕ
  pub first : NoneToOpen now place old.requests
  pub before : Request
  pub there : slice_get old.requests place ≡ Some before
  pub named : before.number ≡ request
  pub due : IsToOpen now before
  pub opens : OpensOf (OfOpen request) now number old.tickets new.tickets
  pub rest : new ≡ record old { tickets = new.tickets; requests = slice_set old.requests place (record before { is_asked = true }) }

-- NOTHING RESTS where a process sleeps: no beat, no look and no open is due, no work has anything to do, and nothing of it comes before
-- the moment up to which it sleeps.
pub record Sleeps (old : Host) (now until : ℕ) (new : Host) : Type 0 where
  pub beats : ¬ BeatsAreDue old now
  pub news : NoLookIsDue old now
  pub opens : NoneToOpen now (length old.requests) old.requests
  pub may_claim : Bool
  pub may : MayClaim old may_claim
  pub all : AllRest (moment_in old now may_claim) old.requests new.requests
  pub tickets : AreSame old.tickets new.tickets
  pub rest : new ≡ record old { tickets = new.tickets; requests = new.requests }
  pub until_is : until ≡ until_of now new

abbrev pub Orders : Host → ℕ → Order → Host → Type 0
Orders old now (Beats number) new = AsksBeats old now number new
Orders old now (LooksFor number look) new = AsksNews old now number look new
Orders old now (Open number request) new = AsksOpen old now number request new
Orders old now (Sleep until) new = Sleeps old now until new
Orders old now order new = WorksOn old now order new

-- ---- answers

-- the ticket is of this request's row, or of its opening, and the request stands at this place
pub record IsTicketOf (h : Host) (number : ℕ) (of : ℕ → Asked) (place : ℕ) : Type 0 where
  pub ticket : Ticket
  pub request : ℕ
  pub is : ticket_of number h.tickets.waiting ≡ Some ticket
  pub named : ticket.of ≡ of request
  pub at : IsAt request place h.requests

-- why an answer is refused
abbrev pub IsRefused : Host → ℕ → NoAnswer → Type 0
IsRefused h number NoTicket = ticket_of number h.tickets.waiting ≡ None
IsRefused h number Unfit = ticket_of number h.tickets.waiting ≢ None
IsRefused h number NoMemory = ticket_of number h.tickets.waiting ≢ None

-- it closes the ticket, and makes one call of the work of that request, and nothing else
pub record Answers (of : ℕ → Asked) (change : Request → Request → Type 0) (old : Host) (number : ℕ) (new : Host) : Type 0 where
  pub place : ℕ
  pub is : IsTicketOf old number of place
  pub after : Request
  pub changes : change is.at.request after
  pub shuts : Shuts number old.tickets new.tickets
  pub rest : new ≡ record old { tickets = new.tickets; requests = slice_set old.requests place after }

abbrev pub AnswersRow : (Work → Work → Type 0) → Host → ℕ → Host → Type 0
AnswersRow call old number new = Answers OfRow (OnWork call) old number new

-- whether one of these entries fails a stage whose claim is this session's
pub record TellsLost (r : Request) (entries : List Entry) (lost : Bool) : Type 0 where
  pub has : OnTrue lost (HasLostIn r.work entries)
  pub none : OnFalse lost (NoneLostIn r.work entries)

-- these entries stand in the row
pub record HearsEntries (now : ℕ) (entries : List Entry) (notes : List Note) (old : Host) (number : ℕ) (lost : Bool) (new : Host) : Type 0 where
  pub answers : AnswersRow (Hearing now entries notes) old number new
  pub tells : TellsLost answers.after entries lost

-- and where one of them fails a stage whose claim is this session's, others take it for gone
pub record HearsRow (now : ℕ) (entries : List Entry) (notes : List Note) (old : Host) (number : ℕ) (new : Host) : Type 0 where
  pub heard : Host
  pub lost : Bool
  pub hears : HearsEntries now entries notes old number lost heard
  pub rest : new ≡ record heard { is_taken_for_gone = old.is_taken_for_gone || lost }

-- a request is opened, which wasn't
pub record IsOpened (session : ℕ) (plan : Planned) (notes : List Note) (room : ℕ) (is_flow : Bool) (old new : Request) : Type 0 where
  pub fresh : old.work ≡ None
  pub begins : Begins (new_work (opened plan notes room session 0 is_flow)) old new

-- a request isn't opened: the store is asked again, or has it no more
pub record StaysShut (now : ℕ) (old new : Request) : Type 0 where
  pub fresh : old.work ≡ None
  pub rest : new ≡ record old { is_asked = false; retry = later_by 20 now }

pub record IsDropped (old new : Request) : Type 0 where
  pub fresh : old.work ≡ None
  pub rest : new ≡ record old { is_asked = false; is_dropped = true }

-- an answer to the question for beats
pub record HearsBeats (old : Host) (now number : ℕ) (beats : List Beat) (clock : ℕ) (new : Host) : Type 0 where
  pub ticket : Ticket
  pub is : ticket_of number old.tickets.waiting ≡ Some ticket
  pub of : ticket.of ≡ OfBeats
  pub takes : TakesAnswer ticket.asked now beats old.watch new.watch
  pub shuts : Shuts number old.tickets new.tickets
  pub rest : new ≡ record old {
    tickets = new.tickets;
    watch = new.watch;
    is_taken_for_gone = false;
    pulse = beats_answered (record { shown = clock; asked = ticket.asked; now = now }) old.pulse;
  }

-- it stays without an answer
pub record LacksBeats (old : Host) (now number : ℕ) (new : Host) : Type 0 where
  pub shuts : Shuts number old.tickets new.tickets
  pub rest : new ≡ record old { tickets = new.tickets; watch = forgotten old.watch; pulse = beats_silent now old.pulse }

-- an answer to a look
pub record HearsNews (old : Host) (now number : ℕ) (lengths : List Length) (mark : ℕ) (new : Host) : Type 0 where
  pub ticket : Ticket
  pub is : ticket_of number old.tickets.waiting ≡ Some ticket
  pub of : ticket.of ≡ OfNews
  pub heard : List Request
  pub hears : HearsAll old.takes_all lengths old.requests heard
  pub looked : new.requests ≡ looked_for (is_whole old.news.asked) lengths heard
  pub shuts : Shuts number old.tickets new.tickets
  pub rest : new ≡ record old { tickets = new.tickets; requests = new.requests; news = answered_by mark (later_by 200 now) old.news }

pub record LacksNews (old : Host) (now number : ℕ) (new : Host) : Type 0 where
  pub shuts : Shuts number old.tickets new.tickets
  pub rest : new ≡ record old { tickets = new.tickets; news = unanswered_by (later_by 20 now) old.news }

-- a question stays without an answer
abbrev pub Lacks : Asked → Host → ℕ → ℕ → Host → Type 0
Lacks OfBeats old now number new = LacksBeats old now number new
Lacks OfNews old now number new = LacksNews old now number new
Lacks (OfOpen request) old now number new = Answers OfOpen (StaysShut now) old number new
Lacks (OfRow request) old now number new = AnswersRow (Waiting now) old number new
Lacks (OfCall request stage) old now number new = ⊥
Lacks (OfAct request) old now number new = ⊥

pub record StaysUnanswered (old : Host) (now number : ℕ) (new : Host) : Type 0 where
  pub ticket : Ticket
  pub is : ticket_of number old.tickets.waiting ≡ Some ticket
  pub lacks : Lacks ticket.of old now number new

-- the store has a request no more
abbrev pub Loses : Asked → Host → ℕ → Host → Type 0
Loses (OfOpen request) old number new = Answers OfOpen IsDropped old number new
Loses (OfRow request) old number new = AnswersRow Breaking old number new
Loses of old number new = ⊥

pub record LosesRequest (old : Host) (number : ℕ) (new : Host) : Type 0 where
  pub ticket : Ticket
  pub is : ticket_of number old.tickets.waiting ≡ Some ticket
  pub loses : Loses ticket.of old number new

-- the function of a call has ended
pub record EndsCall (answer : EndsWith) (old : Host) (number : ℕ) (new : Host) : Type 0 where
  pub stage : ℕ
  pub ends : Answers (λ request. OfCall request stage) (OnWork (CallEnding stage answer)) old number new

-- ---- users

-- this is the session's part in a request
pub record IsShownPart (h : Host) (request : ℕ) (part : Part) : Type 0 where
  pub place : ℕ
  pub at : IsAt request place h.requests
  pub is : IsPartOf at.request part

-- one call of the work of this request, and nothing else
pub record OnRequest (call : Work → Work → Type 0) (request : ℕ) (old new : Host) : Type 0 where
  pub place : ℕ
  pub at : IsAt request place old.requests
  pub after : Request
  pub calls : OnWork call at.request after
  pub rest : new ≡ record old { requests = slice_set old.requests place after }

-- the same, with a ticket for the user, who waits from now on
pub record OnRequestFor (call : ℕ → Work → Work → Type 0) (request now number : ℕ) (old new : Host) : Type 0 where
  pub place : ℕ
  pub at : IsAt request place old.requests
  pub after : Request
  pub calls : OnWork (call number) at.request after
  pub opens : OpensOf (OfAct request) now number old.tickets new.tickets
  pub rest : new ≡ record old { tickets = new.tickets; requests = slice_set old.requests place after }

pub record FollowsIn (request : ℕ) (old new : Host) : Type 0 where
  pub follows : Follows request old.requests new.requests
  pub rest : new ≡ record old { requests = new.requests }
