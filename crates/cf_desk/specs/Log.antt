-- A log of events, and the states along the log.
use Rattle.std.specs.Prelude.{◌≡◌, ℕ, List, [], ◌++◌}
use Rattle.cf_forms.specs.Plans.{Planned}
use Rattle.cf_model.specs.States.{State, start}
use Rattle.cf_model.specs.declared.events.Event.{Event}
use Rattle.cf_model.specs.Events.{state_after}
use Rattle.cf_event.specs.Events.{AreEventsOf, IsEventOf, own}
use Rattle.cf_desk.specs.declared.row.DeskConfig.{DeskConfig}

-- an event of one of a desk's callers can stand in its log, where the graph is in this state
abbrev pub IsDeskEvent : DeskConfig → State → Event → Type 0
IsDeskEvent setting s e = IsEventOf setting.callers setting.functions s e

-- these events can be a log of the desk, from its plan's start on
abbrev pub AreLogged : DeskConfig → List Event → Type 0
AreLogged setting events = AreEventsOf setting.callers setting.functions (start setting.plan) events

-- the state that a list of events leaves from the plan's start
abbrev pub state_from : Planned → List Event → State
state_from plan events = state_after (start plan) events

-- the second list is the first and then events of other callers
pub record Catches (caller : ℕ) (before now : List Event) : Type 0 where
  pub others : List Event
  pub joined : now ≡ before ++ others
  pub none : own caller others ≡ []
