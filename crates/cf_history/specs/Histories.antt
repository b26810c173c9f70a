-- When a whole history fits.
use Rattle.std.specs.Prelude.{◌≡◌, ℕ, ◌+◌, Option, Some, None, List, [], ◌∷◌, ◌<◌, length, slice_get, option_map}
use Rattle.cf_forms.specs.Plans.{Planned}
use Rattle.cf_outcome.specs.declared.outcome.Outcome.{Outcome}
use Rattle.cf_model.specs.declared.events.Event.{Event}
use Rattle.cf_model.specs.States.{State, outcome_at, start}
use Rattle.cf_model.specs.Events.{state_after}
use Rattle.cf_event.specs.declared.record.Record.{Record}
use Rattle.cf_event.specs.Decoding.{decoded}
use Rattle.cf_event.specs.Histories.{IsOneHistory}
use Rattle.cf_history.specs.declared.history.History.{History}
use Rattle.cf_history.specs.declared.history.Caller.{Caller}
use Rattle.cf_event.specs.Events.{AreEventsOf}
use Rattle.cf_history.specs.Records.{AreRight}

-- the words are those of these events, each of which the graph takes as those before it leave it
pub record AreWordsOf (callers functions : ℕ) (s : State) (words : List ℕ) (events : List Event) : Type 0 where
  pub read : events ≡ decoded words
  pub all : length events ≡ length words
  pub taken : AreEventsOf callers functions s events

-- the records of each caller fit, the first being caller c
abbrev pub AllRight : State → List Event → ℕ → List Caller → Type 0
AllRight s events c [] = Unit {0}
AllRight s events c (k ∷ callers) = AreRight c s events 0 k.records.items × AllRight s events (c + 1) callers

-- the outcomes of the first n stages are these
abbrev pub AreOutcomesTo : State → List (Option Outcome) → ℕ → Type 0
AreOutcomesTo s outcomes n = (i : ℕ) → i < n → slice_get outcomes i ≡ Some (outcome_at s i)

-- these outcomes, if they are said, are those of the stages
abbrev pub AreOutcomesOf : State → Option (List (Option Outcome)) → Type 0
AreOutcomesOf s None = Unit {0}
AreOutcomesOf s (Some outcomes) = (length outcomes ≡ length s.plan.stages) × AreOutcomesTo s outcomes (length outcomes)

abbrev pub said : History → Option (List (Option Outcome))
said h = option_map (λ o. o.items) h.outcomes

-- the callers' records, each under its number, the first being caller c
abbrev pub callers_from : ℕ → List Caller → List (ℕ × List Record)
callers_from c [] = []
callers_from c (k ∷ callers) = (c, k.records.items) ∷ callers_from (c + 1) callers

-- the words are those of these events
pub record AreRead (words : List ℕ) (events : List Event) : Type 0 where
  pub read : events ≡ decoded words
  pub all : length events ≡ length words

-- The history fits, from this plan on: its words are events that are one history with what its callers were told, and its outcomes are
-- those of the graph as the events leave it.
pub record FitsOneGraph (plan : Planned) (h : History) : Type 0 where
  pub events : List Event
  pub words : AreRead h.words.items events
  pub one : IsOneHistory plan h.functions events (callers_from 0 h.callers.items)
  pub outcomes : AreOutcomesOf (state_after (start plan) events) (said h)
