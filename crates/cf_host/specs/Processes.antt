-- Several processes at one request of a store, and what may be concluded from any calls of theirs.
use Rattle.std.specs.Prelude.{◌≡◌, ◌≢◌, ℕ, Option, List, [], ◌∷◌, ◌++◌, All}
use Rattle.cf_forms.specs.Plans.{Planned, with_room}
use Rattle.cf_model.specs.States.{start}
use Rattle.cf_ledger.specs.Ledgers.{AreTaken}
use Rattle.cf_part.specs.Parts.{Part}
use Rattle.cf_part.specs.Rows.{IsApart}
use Rattle.cf_row.specs.declared.entry.Entry.{Entry}
use Rattle.cf_row.specs.Rows.{BeginsWith, history_of}
use Rattle.cf_host.specs.declared.order.Order.{Order}
use Rattle.cf_host.specs.Hosts.{Host, IsShownPart}
use Rattle.cf_host.specs.Laws.{ComesTo, calls_of}

-- What a session was told of a request is so: its plan is this one, with whatever room, and what it has seen stands at the front of this row.
-- Its graph took that, as `Replica::ledger` ensures.
pub record IsToldTruly (plan : Planned) (row : List Entry) (part : Part) : Type 0 where
  pub plan_is : part.row.replica.plan ≡ with_room plan part.row.replica.plan.room
  pub true_seen : BeginsWith row part.row.replica.seen
  pub taken : AreTaken (start part.row.replica.plan) (history_of part.row.replica.seen)

-- if a process has opened the request, it was told the truth of it
abbrev pub KnowsTruly : ℕ → Planned → List Entry → Host → Type 0
KnowsTruly request plan row h = (part : Part) → IsShownPart h request part → IsToldTruly plan row part

-- a process from its beginning up to now, and what it was ordered, the last order first
pub record Process : Type 0 where
  pub session : ℕ
  pub outs : List (Option Order)
  pub now : Host

-- it came to this by calls, and was told the truth of the request
pub record IsProcess (request : ℕ) (plan : Planned) (row : List Entry) (p : Process) : Type 0 where
  pub comes : ComesTo p.session p.outs p.now
  pub knows : KnowsTruly request plan row p.now

-- no two are one session's
abbrev pub AreOfOneEach : List Process → Type 0
AreOfOneEach [] = Unit {0}
AreOfOneEach (p ∷ processes) = All (λ (other : Process). other.session ≢ p.session) processes × AreOfOneEach processes

-- the stages of the request whose functions they were ordered to call
abbrev pub called_by_all : ℕ → List Process → List ℕ
called_by_all request [] = []
called_by_all request (p ∷ processes) = calls_of request p.outs ++ called_by_all request processes

-- EACH FUNCTION IS CALLED ONCE BY ALL PROCESSES: whatever stands in the row of a request, if each process has a session of its own, and was
-- told the truth of the request, then no function of it is called twice by whichever of them.
abbrev pub AllCallOnce : Type 0
AllCallOnce =
    (request : ℕ) (plan : Planned) (row : List Entry) (processes : List Process) → All (IsProcess request plan row) processes →
    AreOfOneEach processes → IsApart (called_by_all request processes)
