-- When what callers were told is one history.
use Rattle.std.specs.Prelude.{◌≡◌, ℕ, ◌-◌, ◌<◌, ◌≤◌, List, [], ◌∷◌, length, map}
use Rattle.std.specs.List.{All, Contains}
use Rattle.cf_forms.specs.Plans.{Planned}
use Rattle.cf_model.specs.States.{start}
use Rattle.cf_model.specs.declared.events.Event.{Event}
use Rattle.cf_model.specs.Events.{answered, state_at, told}
use Rattle.cf_model.specs.Ranges.{AskFits}
use Rattle.cf_event.specs.declared.record.Record.{Record}
use Rattle.cf_event.specs.declared.record.Record.TheVariants.{Did, Saw}
use Rattle.cf_model.specs.Calls.{who_of}
use Rattle.cf_event.specs.Events.{AreEventsOf, events_of}

-- how many events were there once a record was answered
abbrev pub place_of : Record → ℕ
place_of (Did place event reply) = place
place_of (Saw place ask answer) = place

-- the changing calls among these records, with their places
abbrev pub dids : List Record → List (ℕ × Event)
dids [] = []
dids (Did place event reply ∷ records) = (place, event) ∷ dids records
dids (Saw place ask answer ∷ records) = dids records

-- a record is answered as one sequential graph answers at its place, where the stage that it asks about is there
abbrev pub IsAnswered : Planned → List Event → Record → Type 0
IsAnswered plan history (Did place event reply) =
    (0 < place) × (place ≤ length history) × (reply ≡ (answered (state_at plan history (place - 1)) event).0)
IsAnswered plan history (Saw place ask answer) =
    (place ≤ length history) × (answer ≡ told (state_at plan history place) ask) × AskFits (length (state_at plan history place).plan.stages) ask

-- no place is before an earlier record's, and that of a changing call is behind each of them
abbrev pub InOrder : ℕ → List Record → Type 0
InOrder last [] = Unit {0}
InOrder last (Did place event reply ∷ records) = (last < place) × InOrder place records
InOrder last (Saw place ask answer ∷ records) = (last ≤ place) × InOrder place records

-- A caller's records fit a history: its changing calls are its events there, once each, in order and at their places; each record is
-- answered as the sequential graph answers at its place; and no place is before anything that the caller had been told of.
pub record AreRecordsOf (plan : Planned) (caller : ℕ) (history : List Event) (records : List Record) : Type 0 where
  pub did : dids records ≡ events_of caller history
  pub answers : All (IsAnswered plan history) records
  pub order : InOrder 0 records

abbrev pub AreRecordsOfOne : Planned → List Event → ℕ × List Record → Type 0
AreRecordsOfOne plan history k = AreRecordsOf plan k.0 history k.1

abbrev pub numbers_of : List (ℕ × List Record) → List ℕ
numbers_of callers = map (λ (k : ℕ × List Record). k.0) callers

-- What callers, by their numbers, were told is one history: each of its events can stand there and is of one of them, and the records
-- of each fit it.
pub record IsOneHistory (plan : Planned) (functions : ℕ) (history : List Event) (callers : List (ℕ × List Record)) : Type 0 where
  pub taken : AreEventsOf (length callers) functions (start plan) history
  pub each : All (AreRecordsOfOne plan history) callers
  pub no_other : All (λ e. Contains (numbers_of callers) (who_of e)) history
