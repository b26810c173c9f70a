use Rattle.std.proofs.Common.{◌≡◌, ◌++◌}
use Rattle.cf_explore.specs.Moves.{caller_moves}
use Rattle.cf_explore.proofs.program.Program.add_callers.Given as goal

-- the moves of the callers so far
abbrev pub invariant-loop-c : goal.invariant-loop-c
invariant-loop-c l = l.made.items ≡ l.initial.made.items ++ caller_moves l.self l.s l.c
