-- Answers that don't fit the question of their ticket.
use Rattle.std.proofs.Common.{◌≡◌, ◌∙◌, ℕ, Some, List, None, ap, get_or, inl, inr, length, refl, subst, sym}
use Rattle.std.specs.Prelude.{◌≢◌, Err, IfErr, IsErrAnd, Ok, Option, Result}
use Rattle.std.proofs.lemmas.Bool.{cases_order}
use Rattle.std.proofs.lemmas.Option.{get_or_from_slice_get, same_Some, slice_get_within}
use Rattle.cf_part.specs.Parts.{IsClose, IsPut, IsRead}
use Rattle.cf_row.specs.declared.entry.Entry.{Entry}
use Rattle.cf_turn.specs.Works.{Work}
use Rattle.cf_host.specs.declared.order.NoAnswer.{NoAnswer}
use Rattle.cf_host.specs.declared.order.NoAnswer.TheVariants.{NoTicket, Unfit, NoMemory}
use Rattle.cf_host.specs.declared.request.Request.{Request}
use Rattle.cf_host.specs.declared.ticket.Asked.{Asked}
use Rattle.cf_host.specs.declared.ticket.Asked.TheVariants.{Beats, News, Open, Row, Call, Act}
use Rattle.cf_host.specs.declared.ticket.Ticket.{Ticket}
use Rattle.cf_host.specs.Fitting.{Asks, AwaitsEnd, TakesEntries, UnfitOnlyIf}
use Rattle.cf_host.specs.Hosts.{Host, IsTicketOf}
use Rattle.cf_host.specs.Requests.{IsAt, IsCalledIn, NoneAt, asked_in}
use Rattle.cf_host.specs.Tickets.{ticket_of}

-- what is unfit for a reason is so for another
pub only_if : (unfit other : Type 0) (why : NoAnswer) → (unfit → other) → UnfitOnlyIf unfit why → UnfitOnlyIf other why
only_if unfit other NoTicket f h = tt
only_if unfit other Unfit f h = f h
only_if unfit other NoMemory f h = tt

-- no ticket was found
pub not_found : (unfit : Type 0) (why : NoAnswer) → why ≡ NoTicket → UnfitOnlyIf unfit why
not_found unfit why is = subst (UnfitOnlyIf unfit) (sym is) tt

-- the question is the same, and there is no answer of which more is asked
pub fewer : (of : ℕ → Asked) (Such Narrow : Request → Type 0) (h : Host) (number : ℕ) → ((r : Request) → Narrow r → Such r) → ¬ Asks of Such h number → ¬ Asks of Narrow h number
fewer of Such Narrow h number f none a = none (record { place = a.place; is = a.is; such = f a.is.at.request a.such })

pub opened_for_put : (r : Request) → IsPut (asked_in r.work) → r.work ≢ None
opened_for_put r put none = subst (λ (w : _). IsPut (asked_in w)) none put

pub opened_for_close : (r : Request) → IsClose (asked_in r.work) → r.work ≢ None
opened_for_close r close none = subst (λ (w : _). IsClose (asked_in w)) none close

-- two tickets of one number are the same
pub one_ticket : (number : ℕ) (waiting : List Ticket) (t u : Ticket) → ticket_of number waiting ≡ Some t → ticket_of number waiting ≡ Some u → t ≡ u
one_ticket number waiting t u a b = same_Some t u (sym a ∙ b)

-- the request that a ticket names
abbrev pub request_in : Asked → ℕ
request_in Beats = 0
request_in News = 0
request_in (Open request) = request
request_in (Row request) = request
request_in (Call request stage) = request
request_in (Act request) = request

-- a number stands at one place
one_place : (n p q : ℕ) (requests : List Request) → IsAt n p requests → IsAt n q requests → p ≡ q
one_place n p q requests a b = elim (cases_order p q) [
  | inl same ↦ same
  | inr (inl before) ↦ absurd (b.first p a.request before a.is a.named)
  | inr (inr behind) ↦ absurd (a.first q b.request behind b.is b.named)
]

-- the request of a ticket is at one place
same_request : (of : ℕ → Asked) → ((n : ℕ) → request_in (of n) ≡ n) → (h : Host) (number request place : ℕ) (t : Ticket) → ticket_of number h.tickets.waiting ≡ Some t → t.of ≡ of request →
    (a : IsTicketOf h number of place) → a.request ≡ request
same_request of back h number request place t found named a =
    sym (back a.request) ∙ ap request_in (sym a.named ∙ ap (λ (u : Ticket). u.of) (one_ticket number h.tickets.waiting a.ticket t a.is found) ∙ named) ∙ back request

-- the request of the ticket isn't such
pub not_such : (of : ℕ → Asked) → ((n : ℕ) → request_in (of n) ≡ n) → (Such : Request → Type 0) (h view : Host) (number place : ℕ) (x : Request) → view ≡ h → IsTicketOf h number of place →
    x ≡ get_or view.requests place x → ¬ Such x → ¬ Asks of Such h number
not_such of back Such h view number place x is ticket value none a =
    let at = subst (λ (n : ℕ). IsAt n a.place h.requests) (same_request of back h number ticket.request a.place ticket.ticket ticket.is ticket.named a.is) a.is.at in
    let same = one_place ticket.request a.place place h.requests at ticket.at in
    let there : x ≡ a.is.at.request = value ∙ ap (λ (k : Host). get_or k.requests place x) is ∙ ap (λ (k : ℕ). get_or h.requests k x) (sym same) ∙ get_or_from_slice_get h.requests a.place a.is.at.request x a.is.at.is in
    none (subst Such (sym there) a.such)

-- the request of the ticket isn't there
pub not_there : (of : ℕ → Asked) → ((n : ℕ) → request_in (of n) ≡ n) → (Such : Request → Type 0) (h : Host) (number request : ℕ) (t : Ticket) → ticket_of number h.tickets.waiting ≡ Some t →
    t.of ≡ of request → NoneAt request (length h.requests) h.requests → ¬ Asks of Such h number
not_there of back Such h number request t found named none a =
    none a.place a.is.at.request (slice_get_within h.requests a.place a.is.at.request a.is.at.is) a.is.at.is
    (a.is.at.named ∙ same_request of back h number request a.place t found named a.is)

-- a fault is handed on
pub handed_on : {T : Type 0} (r : Result T NoAnswer) (why : NoAnswer) (Holds : NoAnswer → Type 0) → IsErrAnd r (λ told. told ≡ why) → Holds why → IfErr r Holds
handed_on (Ok x) why Holds is h = tt
handed_on (Err told) why Holds is h = subst Holds (sym is) h

-- what doesn't fit is refused for whatever reason
pub whatever : (unfit : Type 0) (why : NoAnswer) → unfit → UnfitOnlyIf unfit why
whatever unfit NoTicket h = tt
whatever unfit Unfit h = h
whatever unfit NoMemory h = tt

pub opened_for_entries : (entries : List Entry) (r : Request) → TakesEntries entries r → r.work ≢ None
opened_for_entries entries r (inl read) none = subst (λ (w : Option Work). IsRead (asked_in w)) none read
opened_for_entries entries r (inr put) none = opened_for_put r put.0 none

-- the stage that a ticket names
abbrev stage_in : Asked → ℕ
stage_in (Call request stage) = stage
stage_in of = 0

-- the function of the call doesn't run
pub not_running : (h view : Host) (number request stage place : ℕ) (t : Ticket) (x : Request) → view ≡ h → ticket_of number h.tickets.waiting ≡ Some t → t.of ≡ Call request stage →
    IsAt request place h.requests → x ≡ get_or view.requests place x → ¬ IsCalledIn x.work stage → ¬ AwaitsEnd h number
not_running h view number request stage place t x is found named at value none a =
    let it = a.1.is in
    let of = sym it.named ∙ ap (λ (u : Ticket). u.of) (one_ticket number h.tickets.waiting it.ticket t it.is found) ∙ named in
    let same : a.0 ≡ stage = ap stage_in of in
    not_such (λ r. Call r a.0) (λ n. refl) (λ r. IsCalledIn r.work a.0) h view number place x is
    (record { ticket = t; request = request; is = found; named = named ∙ ap (λ (k : ℕ). Call request k) (sym same); at = at }) value
    (subst (λ (k : ℕ). ¬ IsCalledIn x.work k) (sym same) none) a.1
