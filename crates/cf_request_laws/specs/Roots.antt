-- What the root of gathered stages has, over rows of a machine's calls.
use Rattle.std.specs.Prelude.{◌≡◌, ◌⊎◌, ℕ, ◌+◌, ◌≤◌, true, false, Option, Some, None, List, All, Contains, is_some, length, map, slice_get}
use Rattle.cf_outcome.specs.declared.outcome.Outcome.{Outcome}
use Rattle.cf_outcome.specs.Outcomes.{wrap}
use Rattle.cf_forms.specs.Plans.{sources_at}
use Rattle.cf_model.specs.declared.events.Event.{Event}
use Rattle.cf_model.specs.States.{State, outcome_in}
use Rattle.cf_ledger.specs.Ledgers.{Ledger, state_at, state_of}
use Rattle.cf_request.specs.Gathering.{Gathers, gathered}
use Rattle.cf_request.specs.Linked.{IsTick}
use Rattle.cf_request.specs.Machines.{Machine, stages_in, state_in}
use Rattle.cf_request.specs.Rows.{AreCalls, Out}
use Rattle.cf_request.specs.Telling.{is_settled_in}
use Rattle.cf_request.specs.declared.gathering.Gathering.{Gathering}
use Rattle.cf_request.specs.declared.gathering.Gathering.TheVariants.{AllOf, AnyOf}

-- ---- a stage in a history

-- what one stage that gathers these sources takes in this state: none, as long as it waits
abbrev pub given : Gathering → List ℕ → State → Option Outcome
given how sources s = gathered how (map (outcome_in s.stages) sources)

-- the event at this place of the history settles the stage: it was open before, and is settled behind it
pub record IsSettledBy (stage place : ℕ) (event : Event) (ledger : Ledger) : Type 0 where
  pub stands : slice_get ledger.events place ≡ Some event
  pub before : is_settled_in (state_at ledger place).stages stage ≡ false
  pub behind : is_settled_in (state_at ledger (place + 1)).stages stage ≡ true

-- It wasn't settled by its sources: an event from this place on settled it, behind which they leave it waiting, or which is a tick, and so fires limits.
pub record CameFirst (how : Gathering) (stage from : ℕ) (ledger : Ledger) : Type 0 where
  pub place : ℕ
  pub since : from ≤ place
  pub event : Event
  pub settles : IsSettledBy stage place event ledger
  pub cause : (let s = state_at ledger (place + 1) in given how (sources_at s.plan.stages stage) s ≡ None) ⊎ IsTick event

-- ---- a root

-- it is open, and one stage over all sources would wait
pub record Waits (how : Gathering) (sources : List ℕ) (root : ℕ) (s : State) : Type 0 where
  pub root_open : is_settled_in s.stages root ≡ false
  pub none : given how sources s ≡ None

-- it is settled, and has what one stage over all sources takes in this state
pub record Takes (how : Gathering) (sources : List ℕ) (root : ℕ) (s : State) : Type 0 where
  pub settled : is_settled_in s.stages root ≡ true
  pub same : outcome_in s.stages root ≡ given how sources s

-- an event from this place on settled it: one stage over all sources would have waited before, and it took behind it what that takes
pub record TookAsOne (how : Gathering) (sources : List ℕ) (root from : ℕ) (ledger : Ledger) : Type 0 where
  pub place : ℕ
  pub since : from ≤ place
  pub event : Event
  pub settles : IsSettledBy root place event ledger
  pub waits : Waits how sources root (state_at ledger place)
  pub takes : Takes how sources root (state_at ledger (place + 1))

-- So it was with one of the stages that gather, which are those from the first to the root, and until then the root waited.
pub record OneCameFirst (how : Gathering) (sources : List ℕ) (first root from : ℕ) (ledger : Ledger) : Type 0 where
  pub stage : ℕ
  pub not_before : first ≤ stage
  pub not_behind : stage ≤ root
  pub came : CameFirst how stage from ledger
  pub waited : Waits how sources root (state_at ledger came.place)

-- It waits; or it took at this place, or by an event since, what one stage over all sources takes then; or one of the stages that gather came first.
abbrev pub EndsAsOne : Gathering → List ℕ → ℕ → ℕ → ℕ → Ledger → Type 0
EndsAsOne how sources first root from ledger =
    Waits how sources root (state_of ledger) ⊎ ((Takes how sources root (state_at ledger from) ⊎ TookAsOne how sources root from ledger) ⊎ OneCameFirst how sources first root from ledger)

-- ---- over rows of calls

-- The stages were gathered, and any calls came since.
pub record AreGathered (who : ℕ) (how : Gathering) (sources : List ℕ) (root : ℕ) (old attached new : Machine) : Type 0 where
  pub gathers : Gathers who how sources old root attached
  pub outs : List Out
  pub calls : AreCalls attached outs new

-- how many events there were when they were
abbrev pub events_in : Machine → ℕ
events_in m = length m.teller.ledger.events

-- So ends the root: it waits as one stage would, and takes what that takes when that does, unless one of the stages that gather came first.
abbrev pub RootsEndAsOne : Type 0
RootsEndAsOne =
    (who : ℕ) (how : Gathering) (sources : List ℕ) (root : ℕ) (old attached new : Machine) → AreGathered who how sources root old attached new →
    EndsAsOne how sources (stages_in old) root (events_in attached) new.teller.ledger

-- A root of allOf has at any time what one stage over all sources has, unless one came first.
abbrev pub AllOfRootsAreAsOne : Type 0
AllOfRootsAreAsOne =
    (who : ℕ) (sources : List ℕ) (root : ℕ) (old attached new : Machine) → AreGathered who AllOf sources root old attached new →
    (outcome_in (state_in new).stages root ≡ given AllOf sources (state_in new)) ⊎ OneCameFirst AllOf sources (stages_in old) root (events_in attached) new.teller.ledger

-- A root of anyOf has the outcome of a source, wrapped, which is settled at this place. At the place before none of them was, unless they were gathered here.
pub record HasTheFirst (sources : List ℕ) (root from : ℕ) (ledger : Ledger) : Type 0 where
  pub place : ℕ
  pub since : from ≤ place
  pub source : ℕ
  pub among : Contains sources source
  pub outcome : Outcome
  pub settled : outcome_in (state_at ledger place).stages source ≡ Some outcome
  pub none_before : (k : ℕ) → from ≤ k → k + 1 ≡ place → All (λ i. is_settled_in (state_at ledger k).stages i ≡ false) sources
  pub has : outcome_in (state_of ledger).stages root ≡ Some (wrap outcome)

-- the root and all sources are open
pub record AreAllOpen (sources : List ℕ) (root : ℕ) (s : State) : Type 0 where
  pub root_open : is_settled_in s.stages root ≡ false
  pub sources_open : All (λ i. is_settled_in s.stages i ≡ false) sources

-- So it has that of a source that was settled first, and is open while none is, unless one came first.
abbrev pub AnyOfRootsHaveTheFirst : Type 0
AnyOfRootsHaveTheFirst =
    (who : ℕ) (sources : List ℕ) (root : ℕ) (old attached new : Machine) → AreGathered who AnyOf sources root old attached new →
    AreAllOpen sources root (state_in new) ⊎ (HasTheFirst sources root (events_in attached) new.teller.ledger ⊎ OneCameFirst AnyOf sources (stages_in old) root (events_in attached) new.teller.ledger)

-- It is never late: whichever came first, it is settled once one stage over all sources would be.
abbrev pub RootsAreInTime : Type 0
RootsAreInTime =
    (who : ℕ) (how : Gathering) (sources : List ℕ) (root : ℕ) (old attached new : Machine) → AreGathered who how sources root old attached new →
    is_some (given how sources (state_in new)) ≡ true → is_settled_in (state_in new).stages root ≡ true
