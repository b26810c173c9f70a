-- Several processes that a store in memory leads.
use Rattle.std.specs.Prelude.{◌≡◌, ℕ, Option, Some, List, [], ◌∷◌, ◌++◌, All, map}
use Rattle.cf_forms.specs.Plans.{Planned}
use Rattle.cf_model.specs.States.{start}
use Rattle.cf_ledger.specs.Ledgers.{AreTaken}
use Rattle.cf_row.specs.declared.entry.Entry.{Entry}
use Rattle.cf_row.specs.Rows.{BeginsWith, history_of}
use Rattle.cf_part.specs.Parts.{Part, seen_by}
use Rattle.cf_turn.specs.Works.{Work}
use Rattle.cf_host.specs.declared.order.Order.{Order}
use Rattle.cf_host.specs.declared.order.Order.TheVariants.{Row}
use Rattle.cf_host.specs.Hosts.{Host, IsShownPart, Orders}
use Rattle.cf_host.specs.Keeping.{IsAskedFor, IsWorkIn}
use Rattle.cf_host.specs.Laws.{ComesTo, called_in, calls_of}
use Rattle.cf_host.specs.Processes.{KnowsTruly}
use Rattle.cf_example.specs.declared.processes.Worker.{Worker}

-- a request that a store has: its number, its plan with room, and what stands in its row
pub record Stored : Type 0 where
  pub number : ℕ
  pub plan : Planned
  pub row : List Entry

-- more stands in its row
pub record Grows (old new : Stored) : Type 0 where
  pub number : new.number ≡ old.number
  pub plan : new.plan ≡ old.plan
  pub row : BeginsWith new.row old.row

-- It came to this by calls, which told to call just these functions of the request, and was told the truth of it.
pub record IsLed (s : Stored) (w : Worker) : Type 0 where
  pub outs : List (Option Order)
  pub comes : ComesTo w.session outs w.host
  pub called : w.called.items ≡ calls_of s.number outs
  pub knows : KnowsTruly s.number s.plan s.row w.host

-- whatever the request is, the process goes on truly
pub record GoesOn (old new : Worker) : Type 0 where
  pub session : new.session ≡ old.session
  pub led : (s : Stored) → IsLed s old → IsLed s new

-- so it does, and more stands in the row
pub record Leads (s : Stored) (old : Worker) (t : Stored) (new : Worker) : Type 0 where
  pub grows : Grows s t
  pub session : new.session ≡ old.session
  pub led : IsLed t new

-- ---- what is asked

-- a turn, and the function that it tells to call
pub record Turns (request now : ℕ) (order : Order) (old new : Worker) : Type 0 where
  pub session : new.session ≡ old.session
  pub orders : Orders old.host now order new.host
  pub called : new.called.items ≡ old.called.items ++ called_in request (Some order)

-- a question about a row is asked behind all that was seen
abbrev pub IsAsked : Order → Host → Type 0
IsAsked (Row number request q) h = IsAskedFor h request number q
IsAsked order h = Unit {0}

-- the session has seen so many entries of the request
abbrev pub HasSeen : ℕ → ℕ → Host → Type 0
HasSeen request many h = (w : Work) → IsWorkIn h request w → seen_by w.part ≡ many

-- its put stands behind all that it has seen
abbrev pub HasPut : Stored → Host → Type 0
HasPut s h = (w : Work) → IsWorkIn h s.number w → BeginsWith s.row (w.part.row.replica.seen ++ w.part.row.put)

-- the session's graph took all that it has seen of the request
abbrev pub HasTaken : ℕ → Host → Type 0
HasTaken request h = (part : Part) → IsShownPart h request part → AreTaken (start part.row.replica.plan) (history_of part.row.replica.seen)

-- ---- all processes

abbrev pub session_of : Worker → ℕ
session_of w = w.session

-- these sessions have a process each, and each of them is led
pub record AreLed (s : Stored) (sessions : List ℕ) (workers : List Worker) : Type 0 where
  pub each : All (IsLed s) workers
  pub own : map session_of workers ≡ sessions

-- the stages whose functions they were told to call, all of them
abbrev pub called_by_all : List Worker → List ℕ
called_by_all [] = []
called_by_all (w ∷ workers) = w.called.items ++ called_by_all workers
