-- A request at its place in a process.
use Rattle.std.proofs.Common.{◌≡◌, ℕ, zero, suc, ◌+◌, ◌-◌, ◌∙◌, Bool, None, List, ap, arith, get_or, refl, set, subst, sym}
use Rattle.std.specs.Bool.{OnFalse, OnTrue}
use Rattle.std.specs.Prelude.{max}
use Rattle.std.proofs.Math.Nat.{max-eq_left}
use Rattle.std.proofs.lemmas.List.{get_or-set_same}
use Rattle.std.proofs.lemmas.Option.{get_or_from_slice_get, slice_get_within}
use Rattle.cf_notes.specs.declared.note.Note.{Note}
use Rattle.cf_row.specs.declared.entry.Entry.{Entry}
use Rattle.cf_turn.specs.Works.{Work}
use Rattle.cf_host.specs.declared.request.Request.{Request}
use Rattle.cf_host.specs.declared.ticket.Asked.{Asked}
use Rattle.cf_host.specs.declared.ticket.Asked.TheVariants.{Act, Row as OfRow}
use Rattle.cf_host.specs.declared.ticket.Ticket.{Ticket}
use Rattle.cf_part.specs.Parts.{Part}
use Rattle.cf_host.specs.Answering.{Hearing}
use Rattle.cf_host.specs.Hosts.{Answers, FollowsIn, HearsEntries, Host, IsShownPart, IsTicketOf, OnRequest, OnRequestFor, OpensOf, TellsLost}
use Rattle.cf_host.specs.Lost.{HasLostIn, NoneLostIn}
use Rattle.cf_host.specs.Requests.{Follows, IsAt, IsPartOf, IsShutAt, OnWork}
use Rattle.cf_host.specs.Tickets.{Opens, Shuts, Tickets}

-- what an index gives is the request that stands there
pub same_at : (number place : ℕ) (requests : List Request) (x : Request) (at : IsAt number place requests) → x ≡ get_or requests place x → x ≡ at.request
same_at number place requests x at value = value ∙ get_or_from_slice_get requests place at.request x at.is

pub on_request : (call : Work → Work → Type 0) (request place : ℕ) (old view new : Host) (x after : Request) → view ≡ old → IsAt request place old.requests →
    x ≡ get_or view.requests place x → OnWork call x after → new ≡ record view { requests = set view.requests place after } → OnRequest call request old new
on_request call request place old view new x after is at value calls rest =
    let there = subst (λ (h : Host). IsAt request place h.requests) (sym is) at in
    subst (λ (h : Host). OnRequest call request h new) is
    (record {
      place = place;
      at = there;
      after = after;
      calls = subst (λ (r : Request). OnWork call r after) (same_at request place view.requests x there value) calls;
      rest = rest;
    })

pub answers : (of : ℕ → Asked) (change : Request → Request → Type 0) (number place : ℕ) (old view new : Host) (x after : Request) → view ≡ old → IsTicketOf old number of place →
    x ≡ get_or view.requests place x → change x after → Shuts number view.tickets new.tickets →
    new ≡ record view { tickets = new.tickets; requests = set view.requests place after } → Answers of change old number new
answers of change number place old view new x after is ticket value changes shuts rest =
    let it = subst (λ (h : Host). IsTicketOf h number of place) (sym is) ticket in
    subst (λ (h : Host). Answers of change h number new) is
    (record {
      place = place;
      is = it;
      after = after;
      changes = subst (λ (r : Request). change r after) (same_at it.request place view.requests x it.at value) changes;
      shuts = shuts;
      rest = rest;
    })

-- the entries are taken, and the request is asked behind them
pub hears_entries : (now : ℕ) (entries : List Entry) (notes : List Note) (number place : ℕ) (old view new : Host) (x after y : Request) (lost : Bool) → view ≡ old → IsTicketOf old number OfRow place →
    x ≡ get_or view.requests place x → OnWork (Hearing now entries notes) x after → Shuts number view.tickets new.tickets →
    new ≡ record view { tickets = new.tickets; requests = set view.requests place after } → y ≡ get_or (set view.requests place after) place y → OnTrue lost (HasLostIn y.work entries) →
    OnFalse lost (NoneLostIn y.work entries) → HearsEntries now entries notes old number lost new
hears_entries now entries notes number place old view new x after y lost is ticket value changes shuts rest asked has none =
    let it = subst (λ (h : Host). IsTicketOf h number OfRow place) (sym is) ticket in
    let there = slice_get_within view.requests place it.at.request it.at.is in
    let same : y ≡ after = asked ∙ get_or-set_same view.requests place after y there in
    subst (λ (h : Host). HearsEntries now entries notes h number lost new) is
    (record {
      answers = record {
        place = place;
        is = it;
        after = after;
        changes = subst (λ (r : Request). OnWork (Hearing now entries notes) r after) (same_at it.request place view.requests x it.at value) changes;
        shuts = shuts;
        rest = rest;
      };
      tells = subst (λ (r : Request). TellsLost r entries lost) same (record { has = has; none = none });
    })

pub shut_at : (place : ℕ) (requests : List Request) (x : Request) → IsShutAt place requests → x ≡ get_or requests place x → x.work ≡ None
shut_at place requests x shut value = ap (λ (r : Request). r.work) (value ∙ get_or_from_slice_get requests place shut.0 x shut.1) ∙ shut.2

pub shown : (request place : ℕ) (old view : Host) (x : Request) (part : Part) → view ≡ old → IsAt request place view.requests → x ≡ get_or view.requests place x → IsPartOf x part →
    IsShownPart old request part
shown request place old view x part is at value of =
    subst (λ (h : Host). IsShownPart h request part) is
    (record { place = place; at = at; is = subst (λ (r : Request). IsPartOf r part) (same_at request place view.requests x at value) of })

pub follows_in : (request : ℕ) (old view new : Host) → view ≡ old → Follows request view.requests new.requests → new ≡ record view { requests = new.requests } → FollowsIn request old new
follows_in request old view new is follows rest = subst (λ (h : Host). FollowsIn request h new) is (record { follows = follows; rest = rest })

-- with memory for one more ticket
abbrev pub found : Tickets → Tickets
found t = record t { free = max t.free 1 }

pub one_less : (n : ℕ) → max n 1 - 1 ≡ n - 1
one_less zero = refl
one_less (suc n) = ap (λ (k : ℕ). k - 1) (max-eq_left (omega arith))

abbrev pub ready : Host → Host
ready h = record h { tickets = found h.tickets }

pub found_opens : (ticket : Ticket) (old new : Tickets) → Opens ticket (found old) new → Opens ticket old new
found_opens ticket old new o = record { number = o.number; last = o.last; waiting = o.waiting; free = o.free ∙ one_less old.free }

pub opens_ready : (of : Asked) (now number : ℕ) (old new : Tickets) → OpensOf of now number (found old) new → OpensOf of now number old new
opens_ready of now number old new o =
    record { ticket = o.ticket; opens = found_opens o.ticket old new o.opens; is = o.is; asked = o.asked; named = o.named }

pub on_request_for : (call : ℕ → Work → Work → Type 0) (request now number place : ℕ) (old mid view new : Host) (x after : Request) (ticket : Ticket) → mid ≡ ready old → view ≡ mid →
    IsAt request place old.requests → x ≡ get_or view.requests place x → number ≡ view.tickets.last + 1 → OnWork (call number) x after → Opens ticket view.tickets new.tickets →
    ticket.of ≡ Act request → ticket.asked ≡ now → new ≡ record view { tickets = new.tickets; requests = set view.requests place after } → OnRequestFor call request now number old new
on_request_for call request now number place old mid view new x after ticket from_old from_mid at value named calls opens of asked rest =
    let is : view ≡ ready old = from_mid ∙ from_old in
    let there : x ≡ get_or old.requests place x = value ∙ ap (λ (h : Host). get_or h.requests place x) is in
    let opened = subst (λ (h : Host). Opens ticket h.tickets new.tickets) is opens in
    let next : number ≡ old.tickets.last + 1 = named ∙ ap (λ (h : Host). h.tickets.last + 1) is in
    record {
      place = place;
      at = at;
      after = after;
      calls = subst (λ (r : Request). OnWork (call number) r after) (same_at request place old.requests x at there) calls;
      opens = record {
        ticket = ticket;
        opens = found_opens ticket old.tickets new.tickets opened;
        is = of;
        asked = asked;
        named = opened.number ∙ sym next;
      };
      rest = rest ∙ ap (λ (h : Host). record h { tickets = new.tickets; requests = set h.requests place after }) is;
    }
