use Rattle.std.proofs.Common.{◌≡◌, ◌++◌, drop, map, take}
use Rattle.cf_watch.specs.Watches.{looked_at}
use Rattle.cf_watch.proofs.watch.look_again.Given as goal

-- those so far took the answer
abbrev pub invariant-loop-one : goal.invariant-loop-one
invariant-loop-one l = l.known ≡ map (looked_at l.lease l.time l.beats) (take l.one-index l.initial.known) ++ drop l.one-index l.initial.known
