-- When the records of a caller fit a history, read one after another. `at` events have come and left the graph in state s, and `rest` are still to come.
use Rattle.std.specs.Prelude.{◌≡◌, ℕ, ◌-◌, ◌<◌, ◌≤◌, Some, List, [], ◌∷◌, length, take, drop, slice_get}
use Rattle.cf_model.specs.declared.asks.Ask.{Ask}
use Rattle.cf_model.specs.declared.asks.Told.{Told}
use Rattle.cf_model.specs.declared.events.Event.{Event}
use Rattle.cf_model.specs.declared.events.Reply.{Reply}
use Rattle.cf_model.specs.States.{State}
use Rattle.cf_model.specs.Events.{answered, state_after, told}
use Rattle.cf_model.specs.Ranges.{AskFits}
use Rattle.cf_model.specs.Calls.{who_of}
use Rattle.cf_event.specs.Words.{IsEvent}
use Rattle.cf_event.specs.Histories.{place_of}
use Rattle.cf_event.specs.declared.record.Record.{Record}
use Rattle.cf_event.specs.declared.record.Record.TheVariants.{Did, Saw}
use Rattle.cf_event.specs.Events.{own}

-- the state once so many of the events to come are done
abbrev pub state_in : State → List Event → ℕ → State
state_in s rest n = state_after s (take n rest)

-- A changing call fits: its event, which has a word, is the caller's next one in the history and stands at its place, and the reply
-- is what the graph answers to it there.
pub record IsCalled (c : ℕ) (s : State) (rest : List Event) (at place : ℕ) (e : Event) (reply : Reply) : Type 0 where
  pub behind : at < place
  pub next : own c (take (place - at - 1) rest) ≡ []
  pub there : slice_get rest (place - at - 1) ≡ Some e
  pub event : IsEvent e
  pub mine : who_of e ≡ c
  pub replied : reply ≡ (answered (state_in s rest (place - at - 1)) e).0

-- A question fits: none of the caller's events stands between the record before it and its place, and the answer is what the graph
-- tells there.
pub record RecordIsTold (c : ℕ) (s : State) (rest : List Event) (at place : ℕ) (ask : Ask) (answer : Told) : Type 0 where
  pub not_before : at ≤ place
  pub within : place - at ≤ length rest
  pub none : own c (take (place - at) rest) ≡ []
  pub asks : AskFits (length (state_in s rest (place - at)).plan.stages) ask
  pub told_so : answer ≡ told (state_in s rest (place - at)) ask

abbrev pub IsRight : ℕ → State → List Event → ℕ → Record → Type 0
IsRight c s rest at (Did place event reply) = IsCalled c s rest at place event reply
IsRight c s rest at (Saw place ask answer) = RecordIsTold c s rest at place ask answer

-- each record fits behind the one before it, and behind the last one stands no event of the caller
abbrev pub AreRight : ℕ → State → List Event → ℕ → List Record → Type 0
AreRight c s rest at [] = own c rest ≡ []
AreRight c s rest at (r ∷ records) =
    IsRight c s rest at r × AreRight c (state_in s rest (place_of r - at)) (drop (place_of r - at) rest) (place_of r) records

-- the record fits, and s' is the state at its place
pub record RecordGoesOn (c : ℕ) (s : State) (rest : List Event) (at : ℕ) (r : Record) (s' : State) : Type 0 where
  pub right : IsRight c s rest at r
  pub not_before : at ≤ place_of r
  pub within : place_of r - at ≤ length rest
  pub state : s' ≡ state_in s rest (place_of r - at)
