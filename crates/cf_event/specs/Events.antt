-- Which events can stand in a history, and which of them are one caller's.
use Rattle.std.specs.Prelude.{ℕ, suc, ◌<◌, eqb, Option, None, Some, List, [], ◌∷◌, length}
use Rattle.std.specs.List.{filter}
use Rattle.cf_model.specs.States.{State}
use Rattle.cf_model.specs.declared.events.Event.{Event}
use Rattle.cf_model.specs.declared.events.Event.TheVariants.{Attach as Attaches}
use Rattle.cf_model.specs.Events.{answered}
use Rattle.cf_model.specs.Ranges.{EventFits}
use Rattle.cf_model.specs.Calls.{who_of}
use Rattle.cf_event.specs.Words.{IsEvent}

-- the events of one caller among these, in order
abbrev pub own : ℕ → List Event → List Event
own c events = filter (λ e. eqb (who_of e) c) events

-- each event with its place, counted from n + 1
abbrev pub placed : ℕ → List Event → List (ℕ × Event)
placed n [] = []
placed n (e ∷ events) = (suc n, e) ∷ placed (suc n) events

-- the events of one caller with their places, in order
abbrev pub events_of : ℕ → List Event → List (ℕ × Event)
events_of c events = filter (λ e. eqb (who_of e.1) c) (placed 0 events)

-- a function, if there is one, is one of so many
abbrev pub IsFunctionBelow : ℕ → Option ℕ → Type 0
IsFunctionBelow functions None = Unit {0}
IsFunctionBelow functions (Some function) = function < functions

-- the function that an event names, if it names one, is one of so many
abbrev pub NamesFunction : ℕ → Event → Type 0
NamesFunction functions (Attaches who form of function) = IsFunctionBelow functions function
NamesFunction functions event = Unit {0}

-- an event of one of so many callers that has a word and fits the graph in this state, with no function but one of so many
pub record IsEventOf (callers functions : ℕ) (s : State) (e : Event) : Type 0 where
  pub event : IsEvent e
  pub caller : who_of e < callers
  pub fits : EventFits (length s.plan.stages) e
  pub function : NamesFunction functions e

-- each of these events is one as those before it leave the graph
abbrev pub AreEventsOf : ℕ → ℕ → State → List Event → Type 0
AreEventsOf callers functions s [] = Unit {0}
AreEventsOf callers functions s (e ∷ events) = IsEventOf callers functions s e × AreEventsOf callers functions ((answered s e).1) events
