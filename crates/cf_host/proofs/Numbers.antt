-- What calls do to tickets.
use Rattle.std.proofs.Common.{◌≡◌, ℕ, ◌<◌, ◌≤◌, inl, inr, Bool, cond, Option, Some, None, List, [], ◌∷◌, ◌++◌, refl, ap, sym, ◌∙◌, subst, arith}
use Rattle.std.proofs.lemmas.Bool.Decides.{eqb_tells}
use Rattle.cf_turn.specs.declared.turn.Turn.{Turn}
use Rattle.cf_turn.specs.declared.turn.Turn.TheVariants.{Tell as TellTurn, Show as ShowTurn, Stop as StopTurn, Call as CallTurn, Ask as AskTurn}
use Rattle.cf_host.specs.declared.order.Order.{Order}
use Rattle.cf_host.specs.declared.order.Order.TheVariants.{Beats, News as LooksFor, Open, Row, Call, Stop, Show, Tell, Sleep}
use Rattle.cf_host.specs.declared.ticket.Asked.{Asked}
use Rattle.cf_host.specs.declared.ticket.Asked.TheVariants.{Beats as OfBeats, News as OfNews, Open as OfOpen, Row as OfRow, Call as OfCall, Act as OfAct}
use Rattle.cf_host.specs.declared.ticket.Ticket.{Ticket}
use Rattle.cf_host.specs.Hosts.{Host, Lacks, Loses, Orders, OrdersTurn, WorksOn}
use Rattle.cf_host.specs.Laws.{ComesTo, IsCall}
use Rattle.cf_host.specs.Laws.IsCall.{turns, follows, acts, ends, wants, grows, stirs, stops, opens, hears, lands, refuses, closes, beats, news, lacks, loses, finishes}
use Rattle.cf_host.specs.Tickets.{AreSame, Opens, Shuts, Tickets, ticket_of, without}
use Rattle.cf_host.proofs.Answered.{AreLow, low_more}

-- tickets stay, or one is opened, or closed
pub data Goes (old new : Tickets) : Type 0 where
  keeps : AreSame old new → Goes old new
  adds : (t : Ticket) → Opens t old new → Goes old new
  drops : (number : ℕ) → Shuts number old new → Goes old new

kept_by : (old new rest : Host) → new ≡ rest → rest.tickets ≡ old.tickets → Goes old.tickets new.tickets
kept_by old new rest is same =
    let tickets = ap (λ (h : Host). h.tickets) is ∙ same in
    let free = ap (λ (w : Tickets). w.free) tickets in
    keeps (record { last = ap (λ (w : Tickets). w.last) tickets; waiting = ap (λ (w : Tickets). w.waiting) tickets; free = omega (arith, free) })

turn_goes : (now request : ℕ) (t : Turn) (order : Order) (old new : Tickets) → OrdersTurn now request t order old new → Goes old new
turn_goes now request (TellTurn number told) order old new o = drops number o.1
turn_goes now request (ShowTurn i shown) order old new o = keeps o.1
turn_goes now request (StopTurn i) order old new o = keeps o.1
turn_goes now request (CallTurn i function args) order old new (number, is, o) = adds o.ticket o.opens
turn_goes now request (AskTurn q) order old new (number, is, o) = adds o.ticket o.opens

work_goes : (old : Host) (now : ℕ) (order : Order) (new : Host) → WorksOn old now order new → Goes old.tickets new.tickets
work_goes old now order new w = turn_goes now w.request w.turn order old.tickets new.tickets w.orders

orders_go : (old : Host) (now : ℕ) (order : Order) (new : Host) → Orders old now order new → Goes old.tickets new.tickets
orders_go old now (Beats number) new o = adds o.opens.ticket o.opens.opens
orders_go old now (LooksFor number look) new o = adds o.opens.ticket o.opens.opens
orders_go old now (Open number request) new o = adds o.opens.ticket o.opens.opens
orders_go old now (Sleep until) new o = keeps o.tickets
orders_go old now (Row number request q) new o = work_goes old now (Row number request q) new o
orders_go old now (Call number request i function args) new o = work_goes old now (Call number request i function args) new o
orders_go old now (Stop number) new o = work_goes old now (Stop number) new o
orders_go old now (Show request i shown) new o = work_goes old now (Show request i shown) new o
orders_go old now (Tell number told) new o = work_goes old now (Tell number told) new o

lacks_go : (of : Asked) (old : Host) (now number : ℕ) (new : Host) → Lacks of old now number new → Goes old.tickets new.tickets
lacks_go OfBeats old now number new l = drops number l.shuts
lacks_go OfNews old now number new l = drops number l.shuts
lacks_go (OfOpen request) old now number new l = drops number l.shuts
lacks_go (OfRow request) old now number new l = drops number l.shuts
lacks_go (OfCall request stage) old now number new l = absurd l
lacks_go (OfAct request) old now number new l = absurd l

loses_go : (of : Asked) (old : Host) (number : ℕ) (new : Host) → Loses of old number new → Goes old.tickets new.tickets
loses_go OfBeats old number new l = absurd l
loses_go OfNews old number new l = absurd l
loses_go (OfOpen request) old number new l = drops number l.shuts
loses_go (OfRow request) old number new l = drops number l.shuts
loses_go (OfCall request stage) old number new l = absurd l
loses_go (OfAct request) old number new l = absurd l

pub call_goes : (old : Host) (out : Option Order) (new : Host) → IsCall old out new → Goes old.tickets new.tickets
call_goes old out new (turns now order is o) = orders_go old now order new o
call_goes old out new (follows request is f) = kept_by old new _ f.rest refl
call_goes old out new (acts now request number until act is a) = adds a.opens.ticket a.opens.opens
call_goes old out new (ends now request number until is a) = adds a.opens.ticket a.opens.opens
call_goes old out new (wants request stage is_wanted is a) = kept_by old new _ a.rest refl
call_goes old out new (grows request more is a) = kept_by old new _ a.rest refl
call_goes old out new (stirs due is e) = kept_by old new _ e refl
call_goes old out new (stops is e) = kept_by old new _ e refl
call_goes old out new (opens plan notes room number is_flow is a) = drops number a.shuts
call_goes old out new (hears now number entries notes is a) = drops number (subst (Shuts number old.tickets) (sym (ap (λ (h : Host). h.tickets) a.rest)) a.hears.answers.shuts)
call_goes old out new (lands number is a) = drops number a.shuts
call_goes old out new (refuses now number is a) = drops number a.shuts
call_goes old out new (closes number is_closed is a) = drops number a.shuts
call_goes old out new (beats now number clock beats' is b) = drops number b.shuts
call_goes old out new (news now number mark lengths is b) = drops number b.shuts
call_goes old out new (lacks now number is b) = lacks_go b.ticket.of old now number new b.lacks
call_goes old out new (loses number is b) = loses_go b.ticket.of old number new b.loses
call_goes old out new (finishes number answer is b) = drops number b.ends.shuts

-- ---- numbers

-- the last number never falls
pub later_number : (old new : Tickets) → Goes old new → old.last ≤ new.last
later_number old new (keeps same) = let last = same.last in omega (arith, last)
later_number old new (adds t o) = let number = o.number in let last = o.last in omega (arith, number, last)
later_number old new (drops number s) = let last = s.last in omega (arith, last)

low_without : (number last : ℕ) (ts : List Ticket) → AreLow last ts → AreLow last (without number ts)
low_without number last [] h = tt
low_without number last (t ∷ ts) h = elim (eqb_tells t.number number) [
  | inl p ↦ rw p.0 (low_without number last ts h.1)
  | inr p ↦ rw p.0 ((h.0, low_without number last ts h.1))
]

low_added : (last : ℕ) (ts : List Ticket) (t : Ticket) → AreLow last ts → t.number ≤ last → AreLow last (ts ++ t ∷ [])
low_added last [] t h own = (own, tt)
low_added last (x ∷ ts) t h own = (h.0, low_added last ts t h.1 own)

low_on : (old new : Tickets) → Goes old new → AreLow old.last old.waiting → AreLow new.last new.waiting
low_on old new (keeps same) h = subst (λ (n : ℕ). AreLow n new.waiting) (sym same.last) (subst (AreLow old.last) (sym same.waiting) h)
low_on old new (adds t o) h =
    let number = o.number in
    let last = o.last in
    subst (AreLow new.last) (sym o.waiting) (low_added new.last old.waiting t (low_more old.last new.last old.waiting (omega (arith, number, last)) h) (omega (arith, last)))
low_on old new (drops number s) h = subst (λ (n : ℕ). AreLow n new.waiting) (sym s.last) (subst (AreLow old.last) (sym s.waiting) (low_without number old.last old.waiting h))

-- no open ticket has a number above the last one
pub are_low : (session : ℕ) (outs : List (Option Order)) (h : Host) → ComesTo session outs h → AreLow h.tickets.last h.tickets.waiting
are_low session [] h (threads, lease, takes_all, is) = subst (λ (w : Tickets). AreLow w.last w.waiting) (sym (ap (λ (x : Host). x.tickets) is)) tt
are_low session (out ∷ outs) h (before, comes, call) = low_on before.tickets h.tickets (call_goes before out h call) (are_low session outs before comes)

-- a ticket with a new number is the one that has it
found_last : (ts : List Ticket) (last : ℕ) (t : Ticket) → AreLow last ts → last < t.number → ticket_of t.number (ts ++ t ∷ []) ≡ Some t
found_last [] last t h above = elim (eqb_tells t.number t.number) [
  | inl p ↦ ap (λ (b : Bool). cond b (Some t) None) p.0
  | inr p ↦ absurd (p.1 refl)
]
found_last (x ∷ ts) last t h above = elim (eqb_tells x.number t.number) [
  | inl p ↦ (let low = h.0 in let same = p.1 in absurd (omega (arith, low, above, same)))
  | inr p ↦ ap (λ (b : Bool). cond b (Some x) (ticket_of t.number (ts ++ t ∷ []))) p.0 ∙ found_last ts last t h.1 above
]

pub opened_found : (t : Ticket) (old new : Tickets) → AreLow old.last old.waiting → Opens t old new → ticket_of t.number new.waiting ≡ Some t
opened_found t old new low o = ap (λ (l : List Ticket). ticket_of t.number l) o.waiting ∙ found_last old.waiting old.last t low (let number = o.number in omega (arith, number))
