-- Tickets: each is opened for a question, a call or an act, and is closed by its answer.
use Rattle.std.specs.Prelude.{◌≡◌, ◌≢◌, ◌⊎◌, ℕ, ◌+◌, ◌-◌, ◌<◌, ◌≤◌, ◌&&◌, Bool, true, false, Option, Some, None, List, [], ◌∷◌, ◌++◌, cond, eqb, length, not}
use Rattle.std.specs.List.{filter}
use Rattle.cf_host.specs.declared.ticket.Asked.{Asked}
use Rattle.cf_host.specs.declared.ticket.Asked.TheVariants.{Beats, News, Open, Row, Call as Called, Act}
use Rattle.cf_host.specs.declared.ticket.Ticket.{Ticket}

-- the number given last, the tickets that are open, and for how many more memory was found
pub record Tickets : Type 0 where
  pub last : ℕ
  pub waiting : List Ticket
  pub free : ℕ

abbrev pub no_tickets : Tickets
no_tickets = record { last = 0; waiting = []; free = 0 }

-- memory was found for one more, and a number is left
pub record IsReady (t : Tickets) : Type 0 where
  pub place : 0 < t.free
  pub number : t.last < 18446744073709551615

-- for how many memory was found
abbrev pub places_of : Tickets → ℕ
places_of t = length t.waiting + t.free

-- the first ticket that has this number
abbrev pub ticket_of : ℕ → List Ticket → Option Ticket
ticket_of number [] = None
ticket_of number (t ∷ ts) = cond (eqb t.number number) (Some t) (ticket_of number ts)

-- the tickets that have another number
abbrev pub without : ℕ → List Ticket → List Ticket
without number ts = filter (λ (t : Ticket). not (eqb t.number number)) ts

-- the number of the first ticket that is of the call of this stage's function, or 0
abbrev pub is_call : Asked → ℕ → ℕ → Bool
is_call Beats request stage = false
is_call News request stage = false
is_call (Open r) request stage = false
is_call (Row r) request stage = false
is_call (Called r i) request stage = eqb r request && eqb i stage
is_call (Act r) request stage = false

abbrev pub call_in : ℕ → ℕ → List Ticket → ℕ
call_in request stage [] = 0
call_in request stage (t ∷ ts) = cond (is_call t.of request stage) t.number (call_in request stage ts)

-- a ticket with a new number is opened; memory for it is found where there is none
pub record Opens (t : Ticket) (old new : Tickets) : Type 0 where
  pub number : t.number ≡ old.last + 1
  pub last : new.last ≡ t.number
  pub waiting : new.waiting ≡ old.waiting ++ t ∷ []
  pub free : new.free ≡ old.free - 1

-- none with this number is left, and their memory is free
pub record Shuts (number : ℕ) (old new : Tickets) : Type 0 where
  pub last : new.last ≡ old.last
  pub waiting : new.waiting ≡ without number old.waiting
  pub places : places_of old ≤ places_of new

-- all tickets are as they were
pub record AreSame (old new : Tickets) : Type 0 where
  pub last : new.last ≡ old.last
  pub waiting : new.waiting ≡ old.waiting
  pub free : old.free ≤ new.free

-- an open ticket is closed, and none with its number is left
pub record Closes (t : Ticket) (old new : Tickets) : Type 0 where
  pub is : ticket_of t.number old.waiting ≡ Some t
  pub last : new.last ≡ old.last
  pub waiting : new.waiting ≡ without t.number old.waiting

-- ---- laws

-- calls that went well, of which one finds a place; lists of calls have the last one first
pub data Call : Type 0 where
  opens : Ticket → Call
  closes : Ticket → Call
  reserves : Call

abbrev pub IsCall : Call → Tickets → Tickets → Type 0
IsCall (opens t) old new = Opens t old new
IsCall (closes t) old new = Closes t old new
IsCall reserves old new = AreSame old new

abbrev pub ComesTo : List Call → Tickets → Type 0
ComesTo [] w = w ≡ no_tickets
ComesTo (call ∷ calls) w = (before : Tickets) × ComesTo calls before × IsCall call before w

-- the tickets that these calls opened, and those that they closed
abbrev pub opened_in : List Call → List Ticket
opened_in [] = []
opened_in (opens t ∷ calls) = t ∷ opened_in calls
opened_in (closes t ∷ calls) = opened_in calls
opened_in (reserves ∷ calls) = opened_in calls

abbrev pub closed_in : List Call → List Ticket
closed_in [] = []
closed_in (opens t ∷ calls) = closed_in calls
closed_in (closes t ∷ calls) = t ∷ closed_in calls
closed_in (reserves ∷ calls) = closed_in calls

abbrev pub IsOneOf : Ticket → List Ticket → Type 0
IsOneOf t [] = ⊥
IsOneOf t (u ∷ ts) = (u ≡ t) ⊎ IsOneOf t ts

abbrev pub AreAmong : List Ticket → List Ticket → Type 0
AreAmong [] us = Unit {0}
AreAmong (t ∷ ts) us = IsOneOf t us × AreAmong ts us

-- none has this number
abbrev pub NoneHas : ℕ → List Ticket → Type 0
NoneHas number [] = Unit {0}
NoneHas number (t ∷ ts) = (t.number ≢ number) × NoneHas number ts

-- no two have one number
abbrev pub AreApart : List Ticket → Type 0
AreApart [] = Unit {0}
AreApart (t ∷ ts) = NoneHas t.number ts × AreApart ts

-- Each ticket has a number of its own, each that is closed was opened, as it is closed, and none is closed twice.
pub record AreAnsweredOnce (calls : List Call) : Type 0 where
  pub numbers : AreApart (opened_in calls)
  pub opened : AreAmong (closed_in calls) (opened_in calls)
  pub once : AreApart (closed_in calls)

abbrev pub EachIsAnsweredOnce : Type 0
EachIsAnsweredOnce = (calls : List Call) (w : Tickets) → ComesTo calls w → AreAnsweredOnce calls
