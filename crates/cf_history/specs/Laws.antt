-- Which histories fit, and which verdict is told.
use Rattle.std.specs.Prelude.{◌≡◌, ℕ, Some, List, length, map, slice_get}
use Rattle.std.specs.List.{Contains}
use Rattle.cf_forms.specs.Plans.{Planned}
use Rattle.cf_model.specs.declared.events.Event.{Event}
use Rattle.cf_model.specs.States.{start}
use Rattle.cf_model.specs.Events.{state_after}
use Rattle.cf_event.specs.declared.record.Record.{Record}
use Rattle.cf_event.specs.Words.{word_of}
use Rattle.cf_event.specs.Histories.{IsOneHistory}
use Rattle.cf_history.specs.declared.history.Caller.{Caller}
use Rattle.cf_history.specs.declared.history.History.{History}
use Rattle.cf_history.specs.declared.shared.SharedHistory.{SharedHistory}
use Rattle.cf_history.specs.declared.verdict.Verdict.{Verdict}
use Rattle.cf_history.specs.Histories.{AreOutcomesOf, FitsOneGraph, said}
use Rattle.cf_history.specs.Shared.{IsSharedVerdict}
use Rattle.cf_history.specs.Verdicts.{IsVerdict}

-- these callers are those of the list, which may stand there in any order, each under its number
pub record AreCallersOf (told : List (ℕ × List Record)) (callers : List Caller) : Type 0 where
  pub all : length callers ≡ length told
  pub each : (c : ℕ) (k : Caller) → slice_get callers c ≡ Some k → Contains told (c, k.records.items)

-- a history says what callers were told: the words of these events, the callers' records, and the graph's outcomes, if any
pub record CheckTells (plan : Planned) (functions : ℕ) (events : List Event) (told : List (ℕ × List Record)) (h : History) : Type 0 where
  pub functions_are : h.functions ≡ functions
  pub words : h.words.items ≡ map word_of events
  pub callers : AreCallersOf told h.callers.items
  pub outcomes : AreOutcomesOf (state_after (start plan) events) (said h)

-- there is one verdict on a history
abbrev pub OneVerdict : Type 0
OneVerdict = (plan : Planned) (h : History) (v w : Verdict) → IsVerdict plan h v → IsVerdict plan h w → v ≡ w

-- and one on what sessions tell
abbrev pub OneSharedVerdict : Type 0
OneSharedVerdict = (plan : Planned) (shared : SharedHistory) (v w : Verdict) → IsSharedVerdict plan shared v → IsSharedVerdict plan shared w → v ≡ w

-- where what callers were told is one history, a history that says so fits
abbrev pub OneHistoriesFit : Type 0
OneHistoriesFit =
    (plan : Planned) (functions : ℕ) (events : List Event) (told : List (ℕ × List Record)) (h : History) →
    IsOneHistory plan functions events told → CheckTells plan functions events told h → FitsOneGraph plan h
