use Rattle.std.proofs.Common.{◌≡◌, ◌++◌, drop}
use Rattle.cf_event.specs.Decoding.{decoded}
use Rattle.cf_history.proofs.events.read_events.Given as goal

abbrev pub invariant-loop-i : goal.invariant-loop-i
invariant-loop-i l = decoded l.words ≡ l.events.items ++ decoded (drop l.i l.words)
