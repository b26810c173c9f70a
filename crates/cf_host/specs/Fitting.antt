-- Which answers fit the question of a ticket.
use Rattle.std.specs.Prelude.{◌≡◌, ◌≢◌, ◌⊎◌, ℕ, ◌<◌, true, None, Some, List, length}
use Rattle.cf_forms.specs.Plans.{Planned, has_place}
use Rattle.cf_notes.specs.declared.note.Note.{Note}
use Rattle.cf_part.specs.Parts.{IsClose, IsPut, IsRead}
use Rattle.cf_row.specs.declared.entry.Entry.{Entry}
use Rattle.cf_host.specs.declared.order.NoAnswer.{NoAnswer}
use Rattle.cf_host.specs.declared.order.NoAnswer.TheVariants.{NoTicket, Unfit, NoMemory}
use Rattle.cf_host.specs.declared.request.Request.{Request}
use Rattle.cf_host.specs.declared.ticket.Asked.{Asked}
use Rattle.cf_host.specs.declared.ticket.Asked.TheVariants.{Beats as OfBeats, News as OfNews, Open as OfOpen, Row as OfRow, Call as OfCall, Act as OfAct}
use Rattle.cf_host.specs.declared.ticket.Ticket.{Ticket}
use Rattle.cf_host.specs.Hosts.{Host, IsTicketOf}
use Rattle.cf_host.specs.Requests.{IsCalledIn, asked_in}
use Rattle.cf_host.specs.Tickets.{ticket_of}

-- An answer is refused as unfit only where it doesn't fit.
abbrev pub UnfitOnlyIf : Type 0 → NoAnswer → Type 0
UnfitOnlyIf unfit NoTicket = Unit {0}
UnfitOnlyIf unfit Unfit = unfit
UnfitOnlyIf unfit NoMemory = Unit {0}

-- the ticket is of this question about a request, or of a call of its function, and the request is such
pub record Asks (of : ℕ → Asked) (Such : Request → Type 0) (h : Host) (number : ℕ) : Type 0 where
  pub place : ℕ
  pub is : IsTicketOf h number of place
  pub such : Such is.at.request

-- it asks for a request that isn't opened
abbrev pub AsksPlan : Host → ℕ → Type 0
AsksPlan h number = Asks OfOpen (λ r. r.work ≡ None) h number

-- it asks about the row of one that is opened
abbrev pub AsksRow : Host → ℕ → Type 0
AsksRow h number = Asks OfRow (λ r. r.work ≢ None) h number

abbrev pub AsksPut : Host → ℕ → Type 0
AsksPut h number = Asks OfRow (λ r. IsPut (asked_in r.work)) h number

abbrev pub AsksClose : Host → ℕ → Type 0
AsksClose h number = Asks OfRow (λ r. IsClose (asked_in r.work)) h number

-- it is of the call of a stage's function that hasn't ended
abbrev pub AwaitsEnd : Host → ℕ → Type 0
AwaitsEnd h number = (stage : ℕ) × Asks (λ request. OfCall request stage) (λ r. IsCalledIn r.work stage) h number

-- there is a note for each stage, and the plan has so much room
pub record FitsPlan (plan : Planned) (notes : List Note) (room : ℕ) (h : Host) (number : ℕ) : Type 0 where
  pub asks : AsksPlan h number
  pub noted : length notes ≡ length plan.stages
  pub has_room : has_place plan.stages room ≡ true

-- entries are the answer to a read; and to a put whose place is taken, where there is one at least
abbrev pub TakesEntries : List Entry → Request → Type 0
TakesEntries entries r = IsRead (asked_in r.work) ⊎ (IsPut (asked_in r.work) × (0 < length entries))

-- there is a note for each
pub record FitsEntries (entries : List Entry) (notes : List Note) (h : Host) (number : ℕ) : Type 0 where
  pub asks : Asks OfRow (TakesEntries entries) h number
  pub noted : length notes ≡ length entries

pub record AsksBeats (h : Host) (number : ℕ) : Type 0 where
  pub ticket : Ticket
  pub is : ticket_of number h.tickets.waiting ≡ Some ticket
  pub of : ticket.of ≡ OfBeats

-- a look is open
pub record AsksNews (h : Host) (number : ℕ) : Type 0 where
  pub ticket : Ticket
  pub is : ticket_of number h.tickets.waiting ≡ Some ticket
  pub of : ticket.of ≡ OfNews
  pub looks : h.news.asked ≢ None

-- a question may stay without an answer, but not a call or an act
abbrev pub MayLack : Asked → Host → ℕ → Type 0
MayLack OfBeats h number = Unit {0}
MayLack OfNews h number = Unit {0}
MayLack (OfOpen request) h number = AsksPlan h number
MayLack (OfRow request) h number = AsksRow h number
MayLack (OfCall request stage) h number = ⊥
MayLack (OfAct request) h number = ⊥

-- what is asked about a request may have the answer that the store has it no more
abbrev pub MayLose : Asked → Host → ℕ → Type 0
MayLose (OfOpen request) h number = AsksPlan h number
MayLose (OfRow request) h number = AsksRow h number
MayLose of h number = ⊥

-- the ticket is open, and this holds of what it is of
pub record IsOpenFor (May : Asked → Host → ℕ → Type 0) (h : Host) (number : ℕ) : Type 0 where
  pub ticket : Ticket
  pub is : ticket_of number h.tickets.waiting ≡ Some ticket
  pub may : May ticket.of h number
