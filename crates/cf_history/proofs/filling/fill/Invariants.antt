use Rattle.std.proofs.Common.{◌≡◌, ◌++◌, drop, map}
use Rattle.cf_history.specs.Shared.{filled}
use Rattle.cf_history.proofs.filling.fill.Given as goal

abbrev pub invariant-loop-entry : goal.invariant-loop-entry
invariant-loop-entry l = map (filled l.replies) l.entries ≡ l.records.items ++ map (filled l.replies) (drop l.entry-index l.entries)
