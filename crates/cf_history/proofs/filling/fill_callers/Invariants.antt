use Rattle.std.proofs.Common.{◌≡◌, ◌++◌, drop}
use Rattle.cf_history.specs.Shared.{all_filled, entries_of, records_of}
use Rattle.cf_history.proofs.filling.fill_callers.Given as goal

abbrev pub invariant-loop-caller : goal.invariant-loop-caller
invariant-loop-caller l = all_filled l.replies (entries_of l.callers) ≡ records_of l.told.items ++ all_filled l.replies (entries_of (drop l.caller-index l.callers))
