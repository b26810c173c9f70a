-- A closed desk.
use Rattle.std.specs.Prelude.{◌≡◌, List, length, map}
use Rattle.cf_desk.specs.declared.calls.Closed.{Closed}
use Rattle.cf_event.specs.Histories.{IsOneHistory}
use Rattle.cf_desk.specs.Keepings.{AllFit, AreKept, caller_kept, pass_kept}
use Rattle.cf_desk.specs.Laws.{Shows}
use Rattle.cf_desk.specs.Log.{state_from}
use Rattle.cf_desk.specs.Views.{Closes, Desk, Pass}

-- The passes of all callers of a desk were given back, and it is closed: its history is one order of what all callers did, each pass is
-- kept with its caller and its records, which fit that history, and the graph is as the history leaves it. What all callers were told is
-- one history.
pub record IsClosed (d : Desk) (passes : List Pass) (closed : Closed) : Type 0 where
  pub all : length passes ≡ d.setting.callers
  pub history : Closes d passes closed.history.items
  pub kept : AreKept closed.passes.items passes
  pub fit : AllFit d.setting.plan closed.history.items (map pass_kept closed.passes.items)
  pub graph : closed.graph.state ≡ state_from d.setting.plan closed.history.items
  pub one : IsOneHistory d.setting.plan d.setting.functions closed.history.items (map caller_kept closed.passes.items)
  pub shows : Shows d.setting.plan closed.history.items (map caller_kept closed.passes.items) closed.graph.state
