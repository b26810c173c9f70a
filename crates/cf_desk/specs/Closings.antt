-- What a closed desk tells.
use Rattle.std.specs.Prelude.{◌≡◌, ℕ, map}
use Rattle.cf_forms.specs.Plans.{Planned}
use Rattle.cf_event.specs.Histories.{IsOneHistory}
use Rattle.cf_desk.specs.declared.calls.Closed.{Closed}
use Rattle.cf_desk.specs.Keepings.{AllFit, caller_kept, pass_kept}
use Rattle.cf_desk.specs.Laws.{Shows}
use Rattle.cf_desk.specs.Log.{state_from}

-- the records of each pass fit the history, and each event is of one of the passes' callers
abbrev pub PassesFit : Planned → Closed → Type 0
PassesFit plan closed = AllFit plan closed.history.items (map pass_kept closed.passes.items)

-- the graph is as all events of the history leave it
abbrev pub HoldsAllEvents : Planned → Closed → Type 0
HoldsAllEvents plan closed = closed.graph.state ≡ state_from plan closed.history.items

-- what all callers were told is one history, over so many functions
abbrev pub ToldOneHistory : Planned → ℕ → Closed → Type 0
ToldOneHistory plan functions closed = IsOneHistory plan functions closed.history.items (map caller_kept closed.passes.items)

-- and it shows what one history shows
abbrev pub ShowsOneHistory : Planned → Closed → Type 0
ShowsOneHistory plan closed = Shows plan closed.history.items (map caller_kept closed.passes.items) closed.graph.state
