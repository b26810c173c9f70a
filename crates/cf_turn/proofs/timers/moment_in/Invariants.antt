use Rattle.std.proofs.Common.{◌≡◌}
use Rattle.cf_turn.specs.Timers.{moments_below}
use Rattle.cf_turn.proofs.timers.moment_in.Given as goal

-- the first so far
abbrev pub invariant-loop-stage : goal.invariant-loop-stage
invariant-loop-stage l = l.first ≡ moments_below l.stage l.view l.notes l.clock
